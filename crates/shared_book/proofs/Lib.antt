pub mod Turns
pub mod Found
pub mod Gathering
