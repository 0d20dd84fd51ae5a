pub mod Address
pub mod Faults
pub mod Policy
pub mod Settings
