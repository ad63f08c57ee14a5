pub mod BeyondBytes
