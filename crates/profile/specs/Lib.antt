pub mod ProfileClauses
pub mod StreamClauses
