mod Ascending
mod Books
mod Distinct
mod Joined
pub mod Lasting
mod OneLine
mod Places
mod Replies
mod Running
mod Settled
mod Vehicles
