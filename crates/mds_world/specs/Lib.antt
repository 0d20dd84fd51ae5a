pub mod Acts
pub mod Denied
pub mod Lasting
pub mod Texts
pub mod World
