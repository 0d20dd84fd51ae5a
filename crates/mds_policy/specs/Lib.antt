pub mod Fault
pub mod Policy
pub mod Reading
pub mod Served
