pub mod Ranges
pub mod Kept
pub mod Lines
pub mod Read
