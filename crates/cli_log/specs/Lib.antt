pub mod Ends
pub mod Places
pub mod Seeds
pub mod Status
