pub mod AnswersFixed
pub mod Agreeing
pub mod Asking
pub mod Covers
pub mod CalledLooks
pub mod Reasons
pub mod Seeking
