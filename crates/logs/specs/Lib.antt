pub mod LogBytes
