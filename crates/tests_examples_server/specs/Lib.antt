pub mod Heads
pub mod DeskStates
pub mod Turns
