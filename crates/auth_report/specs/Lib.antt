pub mod Report
pub mod Sections
pub mod Steps
pub mod Reading
