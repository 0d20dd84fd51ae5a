pub mod Fault
pub mod Geography
pub mod Reading
pub mod Served
