mod Told
mod Turns
