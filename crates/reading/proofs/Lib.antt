pub mod Answered
pub mod Answering
