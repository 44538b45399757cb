pub mod Places
pub mod Replies
