pub mod Encoding
pub mod Decoding
pub mod Live
pub mod Stores
