pub mod Joining
pub mod Crossing
pub mod Desks
pub mod Made
pub mod Resolved
pub mod RoomTurning
pub mod Routing
pub mod Running
mod Shelving
pub mod Turning
pub mod Answering
