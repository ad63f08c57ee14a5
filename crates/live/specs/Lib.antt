pub mod Live
pub mod LiveClauses
