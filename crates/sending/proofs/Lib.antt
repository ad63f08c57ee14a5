pub mod Stored
pub mod GatheredAgain
pub mod Coming
pub mod Sent
pub mod TakenBetween
