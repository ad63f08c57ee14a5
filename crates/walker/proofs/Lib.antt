pub mod Beginnings
pub mod Items
pub mod Periods
pub mod Turns
pub mod WholeFrames
