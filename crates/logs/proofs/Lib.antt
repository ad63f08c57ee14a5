pub mod LogStored
