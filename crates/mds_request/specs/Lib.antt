pub mod Call
pub mod Code
pub mod Configuration
pub mod Fault
pub mod Reply
pub mod Request
pub mod Route
