pub mod Counted
pub mod Keeping
pub mod Moving
pub mod Walking
pub mod WordBits
pub mod Split
