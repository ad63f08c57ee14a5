pub mod Deciding
pub mod EachByte
pub mod SplitJoin
pub mod Storing
