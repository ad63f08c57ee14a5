pub mod Listed
pub mod CodingArray
pub mod OutputArray
pub mod PartLengths
