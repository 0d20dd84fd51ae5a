mod Actors
mod Alike
mod Built
pub mod Callers
mod Calls
mod Finding
mod Lists
mod Paths
mod Routed
mod Seeking
