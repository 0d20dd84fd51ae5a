pub mod Arrives
pub mod Busy
pub mod RequestStage
pub mod Slots
pub mod Turn
