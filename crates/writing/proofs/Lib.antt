pub mod Filled
pub mod Puts
pub mod Outcome
