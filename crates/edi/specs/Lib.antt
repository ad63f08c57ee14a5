pub mod Regenerating
pub mod EdiClauses
