pub mod LiveStored
