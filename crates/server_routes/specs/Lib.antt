pub mod Target
pub mod App
pub mod State
pub mod Query
pub mod Past
pub mod Endpoint
pub mod Resolution
pub mod Allowed
