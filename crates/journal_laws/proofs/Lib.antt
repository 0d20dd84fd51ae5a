mod Kept
mod Servers
pub mod Grown
