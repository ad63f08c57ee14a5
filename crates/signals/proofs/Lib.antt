pub mod SignalBack
pub mod CSignals
