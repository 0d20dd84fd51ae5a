pub mod Faults
pub mod Meanings
pub mod Members
pub mod Replies
pub mod Requests
pub mod Times
pub mod Tokens
pub mod Users
