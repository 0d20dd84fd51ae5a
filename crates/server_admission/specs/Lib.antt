pub mod Actor
pub mod Arrival
pub mod Cost
pub mod Slot
pub mod HeadPhase
pub mod SlowClient
pub mod Waiting
