pub mod Bounds
pub mod Counting
pub mod Tallies
pub mod Apart
