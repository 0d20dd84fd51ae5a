pub mod Clocks
pub mod Moments
pub mod Texts
