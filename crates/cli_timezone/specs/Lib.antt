pub mod Footer
pub mod Names
pub mod Wording
