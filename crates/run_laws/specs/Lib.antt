pub mod Lone
pub mod Determined
