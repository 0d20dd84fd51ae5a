pub mod Recovery
pub mod Laws
pub mod Owners
