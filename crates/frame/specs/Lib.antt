pub mod Frame
pub mod Rules
pub mod Answers
pub mod Writing
