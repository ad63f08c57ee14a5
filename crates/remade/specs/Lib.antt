pub mod Remaking
pub mod ReadAlike
