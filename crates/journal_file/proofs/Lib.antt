pub mod Records
pub mod Written
pub mod Found
pub mod Joined
pub mod Listed
pub mod Marked
pub mod Seals
pub mod Endings
