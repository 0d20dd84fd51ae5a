pub mod Chunks
pub mod Served
