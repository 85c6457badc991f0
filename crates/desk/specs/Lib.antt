pub mod Replies
pub mod Session
