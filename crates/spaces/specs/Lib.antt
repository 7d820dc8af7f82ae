pub mod Partitions
pub mod Paths
pub mod Places
pub mod ProtectionSpaces
pub mod Sites
pub mod DigestTerms
pub mod RequestTargets
