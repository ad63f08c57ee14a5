pub mod StreamsKept
pub mod RegeneratingRules
