pub mod Clients
pub mod Codes
pub mod History
pub mod Waiting
pub mod Durable
pub mod Reservations
pub mod Shares
pub mod Tables
