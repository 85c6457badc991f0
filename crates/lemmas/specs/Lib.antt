pub mod Below
pub mod Every
pub mod Keep
pub mod ListFrom
pub mod Parts
pub mod Times
pub mod Zeros
