pub mod Values
pub mod Keys
pub mod Requests
pub mod Reading
pub mod Answers
pub mod Chunks
