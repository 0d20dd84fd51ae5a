mod Dayed
mod Groups
mod Longest
mod Marked
mod Rowed
mod Ruled
mod Spelled
mod Written
