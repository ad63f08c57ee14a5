pub mod Heads
pub mod Hops
pub mod Chains
pub mod CanBeMet
