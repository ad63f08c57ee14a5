pub mod WalkCalls
