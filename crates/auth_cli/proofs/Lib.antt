pub mod Growing
pub mod Complete
pub mod Made
pub mod Few
pub mod Lone
pub mod ClosedReports
