pub mod Examples
pub mod ValidZone
pub mod Matching
pub mod Resolved
pub mod Row
pub mod Zone
pub mod ZoneFault
