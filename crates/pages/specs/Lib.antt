pub mod Encoding
pub mod Decoding
pub mod Places
pub mod Props
pub mod Legal
