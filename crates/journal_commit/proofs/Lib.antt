mod Choosing
pub mod Fronts
pub mod Words
pub mod Held
pub mod Owning
pub mod Sharing
