pub mod ProfileBytes
