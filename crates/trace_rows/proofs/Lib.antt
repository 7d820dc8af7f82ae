pub mod BasicRows
pub mod DigestRows
pub mod NegotiateRows
pub mod RoundsRows
pub mod SharedRows
pub mod Refused
