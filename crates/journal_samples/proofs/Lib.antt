mod Along
mod Answers
mod Ascending
mod Held
mod Placing
pub mod Replies
mod Sampled
pub mod Servers
