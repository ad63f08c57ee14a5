pub mod ItemList
pub mod OnePass
pub mod PartNames
