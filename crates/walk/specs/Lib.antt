pub mod Walk
pub mod ItemValues
pub mod AnyJudging
pub mod Records
pub mod Demand3
pub mod Truth
pub mod StepClauses
