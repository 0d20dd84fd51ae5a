pub mod Drafts
pub mod Entries
pub mod Named
pub mod Publishing
pub mod Values
