pub mod Back
pub mod Relaying
