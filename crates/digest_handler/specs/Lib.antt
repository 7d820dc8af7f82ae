pub mod ChallengeTerms
pub mod ClientNonces
pub mod Credentials
pub mod Examples
