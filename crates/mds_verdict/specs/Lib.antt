pub mod Gathered
pub mod Verdict
