pub mod Links
pub mod Prompts
pub mod Going
