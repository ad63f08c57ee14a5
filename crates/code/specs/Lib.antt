pub mod Code
pub mod CodeAnswers
pub mod CodeClauses
