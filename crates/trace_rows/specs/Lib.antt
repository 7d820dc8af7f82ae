pub mod BasicSessions
pub mod DigestSessions
pub mod NegotiateSessions
pub mod RoundsSessions
pub mod SharedSessions
pub mod Right
