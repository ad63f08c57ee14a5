pub mod FromItems
pub mod Packed
