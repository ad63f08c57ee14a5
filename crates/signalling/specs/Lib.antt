pub mod Feeding
pub mod Groups
pub mod Messages
pub mod OnNumbers
pub mod Following
pub mod GroupClauses
