pub mod Swept
pub mod Places
pub mod Sweeping
pub mod Words
pub mod Trimming
