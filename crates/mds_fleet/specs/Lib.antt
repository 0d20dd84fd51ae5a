pub mod Books
pub mod Fleet
pub mod History
pub mod Laws
pub mod Reading
