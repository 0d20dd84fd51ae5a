pub mod Clients
pub mod Halls
mod ListedRoomTurns
mod ListedTurns
pub mod Openings
mod Outcomes
mod Placing
pub mod Resolving
mod TurnBooks
mod Turns
