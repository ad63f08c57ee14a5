pub mod Between
pub mod Feedback
pub mod Lists
pub mod Turning
