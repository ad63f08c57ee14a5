mod Computed
pub mod OneTurn
pub mod Stretching
