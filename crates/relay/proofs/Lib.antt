pub mod BackFixed
pub mod ReadBack
pub mod Hop
