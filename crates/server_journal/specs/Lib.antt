pub mod Faults
pub mod Full
pub mod Progress
pub mod Starting
