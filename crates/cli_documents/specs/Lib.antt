pub mod Members
pub mod Documents
pub mod Order
