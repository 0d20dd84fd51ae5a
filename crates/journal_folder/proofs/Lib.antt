pub mod Spans
mod Behind
pub mod Lines
