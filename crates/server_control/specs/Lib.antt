pub mod Lines
pub mod Counted
pub mod Hosts
pub mod Admission
pub mod Requests
pub mod Pages
pub mod Replies
pub mod PortAddress
