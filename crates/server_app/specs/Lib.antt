pub mod Oversight
pub mod OperatorNames
pub mod Whoami
pub mod Withdrawals
pub mod DraftList
pub mod ComplianceList
pub mod Laws
