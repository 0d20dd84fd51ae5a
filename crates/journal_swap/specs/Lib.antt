pub mod Leading
pub mod Compacted
pub mod Swapped
pub mod Schedule
