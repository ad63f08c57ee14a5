pub mod Powers
pub mod FieldLaws
pub mod FieldTurns
pub mod Inverses
