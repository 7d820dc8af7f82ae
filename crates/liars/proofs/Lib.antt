pub mod Refusing
pub mod Kept
pub mod Refused
pub mod Drawing
pub mod Renewing
pub mod Sharing
pub mod Proxying
