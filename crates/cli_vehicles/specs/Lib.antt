pub mod Published
pub mod Reports
