pub mod RefuseClauses
