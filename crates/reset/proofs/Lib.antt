pub mod Offsets
pub mod Behind
pub mod Sweeps
pub mod Steps
