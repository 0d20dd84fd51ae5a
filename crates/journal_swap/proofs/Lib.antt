pub mod Leading
pub mod Rolled
pub mod Steps
