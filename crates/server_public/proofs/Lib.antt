mod Found
mod Joined
mod Listed
mod Members
mod Moments
mod Numbers
mod Whole
mod Alike
pub mod Publics
mod Telling
