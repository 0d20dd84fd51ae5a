pub mod Persisted
pub mod Servers
pub mod Compaction
