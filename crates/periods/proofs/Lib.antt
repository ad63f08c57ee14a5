pub mod Marks
pub mod Passing
