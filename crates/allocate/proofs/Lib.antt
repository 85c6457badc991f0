pub mod Found
pub mod Sourced
pub mod Places
pub mod Between
pub mod Served
pub mod Opened
pub mod Requests
