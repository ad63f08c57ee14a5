pub mod CLive
pub mod CLiveDemand3
pub mod CLeased
pub mod SuppositionsMet
pub mod CNights
