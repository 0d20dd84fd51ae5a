pub mod Found
mod Growing
mod Keeping
pub mod Lawful
pub mod Lent
mod Marked
mod Ordered
mod SpotsFound
mod Texts
