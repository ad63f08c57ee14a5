pub mod Kept
pub mod NightLogs
