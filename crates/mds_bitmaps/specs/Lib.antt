pub mod Columns
pub mod Index
pub mod Masked
pub mod Masks
