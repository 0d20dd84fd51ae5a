mod Served
mod Replied
