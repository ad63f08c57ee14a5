pub mod Meaning
pub mod PlaceList
