pub mod Traces
pub mod Journals
pub mod Histories
pub mod Closed
