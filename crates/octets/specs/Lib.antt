pub mod Choice
pub mod Words
pub mod Stores
