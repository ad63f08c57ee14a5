pub mod Linear
pub mod Row
pub mod Xor
