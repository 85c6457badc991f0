pub mod Keys
pub mod Slots
pub mod Encoding
pub mod Front
