pub mod Testing
pub mod CountClauses
