pub mod Heads
pub mod Parts
pub mod Reports
pub mod Zones
