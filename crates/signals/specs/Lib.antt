pub mod SignalBytes
pub mod SignalClauses
