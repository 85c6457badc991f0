pub mod Live
pub mod Retired
pub mod Settled
pub mod Answers
