pub mod WalkStored
