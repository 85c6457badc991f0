pub mod Asked
pub mod Finds
