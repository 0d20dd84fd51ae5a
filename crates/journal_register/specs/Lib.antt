pub mod Order
pub mod Register
pub mod Kinds
pub mod Lawful
pub mod Outcomes
pub mod Laws
