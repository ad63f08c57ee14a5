pub mod CWalk
pub mod WalkTelling
