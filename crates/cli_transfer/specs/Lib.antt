pub mod Ends
pub mod DraftLimits
pub mod Escapes
pub mod Meanings
pub mod Openings
pub mod Tokens
