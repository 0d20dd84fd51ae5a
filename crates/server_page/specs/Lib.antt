pub mod File
pub mod PageSettings
pub mod Response
pub mod Tag
pub mod FileReply
