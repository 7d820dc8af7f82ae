pub mod Prompts
pub mod Rows
pub mod Histories
