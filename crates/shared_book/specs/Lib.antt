pub mod Callers
pub mod Turns
pub mod Opening
