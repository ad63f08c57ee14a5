pub mod WayOut
pub mod OutClauses
