pub mod Session
pub mod Honest
pub mod Lies
pub mod Drawn
pub mod Stale
pub mod Shared
pub mod Proxied
