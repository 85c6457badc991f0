pub mod Parsing
pub mod Exact
pub mod Says
pub mod Steps
pub mod Fragments
pub mod Examples
