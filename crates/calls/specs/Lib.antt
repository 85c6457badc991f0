pub mod Calls
pub mod Arena
