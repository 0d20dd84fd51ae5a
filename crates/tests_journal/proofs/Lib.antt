mod Alone
mod Nothing
