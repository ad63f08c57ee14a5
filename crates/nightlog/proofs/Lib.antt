pub mod Cut
pub mod LogFixed
pub mod Accepted
pub mod Judged
pub mod LogWritten
pub mod Recorded
pub mod Returned
