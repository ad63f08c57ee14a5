pub mod WalkBytes
