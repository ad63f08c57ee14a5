pub mod Sights
pub mod Shifted
pub mod LiveSteps
pub mod GoingOn
pub mod LiveLaws
pub mod LiveDemand3
