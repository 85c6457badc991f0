pub mod Rows
pub mod Lengths
pub mod Longest
pub mod Here
pub mod Walks
pub mod Into
