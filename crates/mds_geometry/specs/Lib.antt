pub mod Area
pub mod Bounds
pub mod Coordinate
pub mod Grid
pub mod Inside
pub mod Laws
pub mod Ring
pub mod Strips
