pub mod Encoded
pub mod Stepped
pub mod Stores
