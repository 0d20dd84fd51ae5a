mod Turning
mod Punctuated
mod Passing
mod Closing
mod Bytes
mod Lexed
mod Valued
mod Agreeing
mod Turns
mod Wholes
mod Placing
mod Counted
pub mod Nodes
pub mod Lists
mod Pointed
