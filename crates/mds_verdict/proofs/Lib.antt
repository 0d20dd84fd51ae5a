pub mod Counting
pub mod Joining
pub mod Measures
pub mod Numbered
