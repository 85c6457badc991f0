pub mod Fragments
pub mod Numbers
