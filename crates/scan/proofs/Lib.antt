pub mod Blocks
pub mod Clearing
pub mod Folding
