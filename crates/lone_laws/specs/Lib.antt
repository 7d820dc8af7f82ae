pub mod Failing
pub mod Lone
pub mod Asking
pub mod Laws
