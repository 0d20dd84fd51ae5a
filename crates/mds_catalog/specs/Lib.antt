pub mod Catalogue
pub mod Index
pub mod Laws
pub mod Listed
pub mod Publication
pub mod Texts
