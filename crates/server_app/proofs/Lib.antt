mod OneLine
mod Ordered
mod Listed
mod Moments
mod Badged
mod Roles
