mod Spaced
mod Told
