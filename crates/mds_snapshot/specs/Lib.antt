pub mod Codes
pub mod Publishing
pub mod History
pub mod Copies
pub mod Opening
