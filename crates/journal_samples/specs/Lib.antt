pub mod Held
pub mod Journals
pub mod Replies
pub mod Samples
pub mod Servers
pub mod Standing
