pub mod Options
pub mod Commands
pub mod Transfers
pub mod Reports
pub mod Versions
pub mod Usage
pub mod Logs
