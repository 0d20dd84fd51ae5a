pub mod Answering
pub mod Ends
pub mod Exit
pub mod Input
pub mod Laws
pub mod LineReading
pub mod Turning
