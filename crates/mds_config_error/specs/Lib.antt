pub mod Diagnosis
pub mod Relations
pub mod Wording
