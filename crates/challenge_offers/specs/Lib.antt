pub mod Offers
pub mod Tokens
