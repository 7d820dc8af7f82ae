pub mod Rests
pub mod Steps
