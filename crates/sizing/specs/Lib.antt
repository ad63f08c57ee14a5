pub mod CountBytes
