pub mod SentGroups
pub mod SendClauses
pub mod MessageTrips
