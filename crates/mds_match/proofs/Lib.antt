pub mod Candidates
pub mod Groups
pub mod Mapped
pub mod Offsets
pub mod Positions
