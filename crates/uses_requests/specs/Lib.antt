pub mod Outcomes
pub mod Peers
