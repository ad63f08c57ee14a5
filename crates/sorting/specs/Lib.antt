pub mod TagRules
pub mod SortClauses
