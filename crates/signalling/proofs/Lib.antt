pub mod Register
pub mod Fed
pub mod Stringing
pub mod Holding
pub mod StepFixed
pub mod GroupTaken
pub mod PairsStored
