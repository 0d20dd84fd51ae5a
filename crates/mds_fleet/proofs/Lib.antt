pub mod ByHistory
pub mod Cases
pub mod Determined
pub mod Fitting
pub mod Rows
pub mod Taking
pub mod Words
