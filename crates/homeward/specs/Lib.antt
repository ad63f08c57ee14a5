pub mod WayBack
pub mod BackClauses
pub mod RowsClean
