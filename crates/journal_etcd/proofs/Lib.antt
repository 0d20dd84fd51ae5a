pub mod Numerals
pub mod Spelled
pub mod Said
pub mod Appended
pub mod Chunking
