pub mod Entered
pub mod Numbered
