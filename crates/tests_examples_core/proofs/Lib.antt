pub mod DraftCounts
pub mod Rows
pub mod Years
pub mod Session
