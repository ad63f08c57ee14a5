pub mod Unplacing
pub mod RowsTold
