pub mod Accounts
pub mod Next
pub mod Checked
