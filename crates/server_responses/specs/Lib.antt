pub mod Field
pub mod Json
pub mod RefusalField
pub mod Methods
