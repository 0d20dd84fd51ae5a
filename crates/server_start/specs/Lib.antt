pub mod Exit
pub mod Input
