pub mod LinkLemmas
pub mod GivingLemmas
