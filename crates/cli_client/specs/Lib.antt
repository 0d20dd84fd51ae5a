pub mod Requests
pub mod Faults
pub mod Heads
pub mod Bodies
