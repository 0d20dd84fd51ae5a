pub mod Asked
pub mod Mapped
pub mod Shared
pub mod Spelled
