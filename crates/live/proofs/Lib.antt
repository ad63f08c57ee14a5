pub mod FirstPlaces
pub mod LiveParts
pub mod WindowSteps
