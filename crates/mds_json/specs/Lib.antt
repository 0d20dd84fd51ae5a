pub mod Direct
pub mod Entries
pub mod Gathered
pub mod Node
