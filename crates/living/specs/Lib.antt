pub mod LiveBytes
