pub mod Encoding
pub mod Records
pub mod Steps
