pub mod Remade
pub mod Again
