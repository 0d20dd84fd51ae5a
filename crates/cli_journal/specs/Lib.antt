pub mod Checks
pub mod Configuring
pub mod Reports
pub mod Exit
pub mod Script
pub mod Compaction
pub mod Messages
pub mod OperatorWords
