pub mod TermsKeyLemmas
pub mod NonceKeyLemmas
pub mod FoundLemmas
pub mod Sites
pub mod Nonces
pub mod Knowing
