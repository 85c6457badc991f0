pub mod Open
pub mod Entries
pub mod Lists
pub mod States
pub mod Here
pub mod Fitting
pub mod Checked
pub mod Fresh
