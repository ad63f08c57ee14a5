pub mod CleanRows
pub mod CodeTurns
pub mod Distance
pub mod Changed
pub mod CodeRegisters
