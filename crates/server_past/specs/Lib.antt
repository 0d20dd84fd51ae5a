pub mod Past
pub mod Response
pub mod Laws
