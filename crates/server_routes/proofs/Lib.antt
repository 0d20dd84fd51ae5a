mod Identified
pub mod Apart
mod Segments
mod Beside
mod Allowed
mod PastQueries
mod Targets
mod Resolutions
