pub mod Placing
pub mod CodedOut
