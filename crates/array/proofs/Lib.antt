pub mod Filling
pub mod Cells
pub mod Sending
pub mod PartSizes
pub mod ThereAndBack
