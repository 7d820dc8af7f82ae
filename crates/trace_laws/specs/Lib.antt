pub mod Lengths
pub mod Bindings
pub mod Homes
pub mod Endings
pub mod Sources
pub mod Answering
pub mod Naming
pub mod LastLinks
