pub mod LiveCalls
pub mod LeasedTrips
pub mod NightCalls
