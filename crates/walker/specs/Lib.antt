pub mod Advance
pub mod NthClauses
