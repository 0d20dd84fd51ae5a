pub mod EachState
pub mod Placing
