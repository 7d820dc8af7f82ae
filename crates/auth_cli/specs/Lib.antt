pub mod Whole
pub mod Commands
pub mod Statuses
pub mod Headline
pub mod Closed
pub mod Standard
