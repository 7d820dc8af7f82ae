pub mod Totals
pub mod Weights
pub mod Keeps
