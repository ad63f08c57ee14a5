pub mod Why
pub mod WhyClauses
