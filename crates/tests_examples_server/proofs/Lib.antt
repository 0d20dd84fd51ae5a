pub mod AtDesk
pub mod AtHall
pub mod AtRoom
