pub mod Ends
pub mod LinkStates
pub mod Readings
pub mod Windows
