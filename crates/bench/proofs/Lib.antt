pub mod Gathering
pub mod Room
