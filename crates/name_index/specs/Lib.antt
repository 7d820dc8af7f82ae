pub mod TermsKeys
pub mod NonceKeys
pub mod Found
