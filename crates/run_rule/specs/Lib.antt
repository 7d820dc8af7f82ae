pub mod Outside
pub mod Naming
pub mod Drawing
pub mod Failing
pub mod Runs
pub mod Laws
