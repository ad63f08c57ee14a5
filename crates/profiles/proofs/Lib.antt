pub mod ProfileTold
