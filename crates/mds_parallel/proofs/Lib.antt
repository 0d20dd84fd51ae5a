pub mod Pieces
pub mod Tallies
pub mod Words
