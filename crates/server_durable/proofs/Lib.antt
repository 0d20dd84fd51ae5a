mod Accepted
mod Among
mod Clients
pub mod Cities
mod Cutting
mod Kept
mod Left
mod ListedRuns
mod Logging
mod Own
mod OwnBodies
pub mod OwnTokens
mod OwnViews
pub mod Owning
mod Reports
mod RoomLogging
pub mod Responses
mod Runs
mod Told
mod Turns
mod Unkept
mod ViewReplies
mod Ways
mod Journals
mod ReadConfigurations
mod LoggedEntries
mod LoggedHalls
mod EndedHalls
