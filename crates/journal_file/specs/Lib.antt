pub mod Sum
pub mod Records
pub mod Marks
pub mod Endings
pub mod Groups
pub mod Laws
pub mod LogEnds
pub mod Openings
