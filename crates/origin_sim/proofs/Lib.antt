pub mod NamedLemmas
pub mod UseLemmas
pub mod OneAnswer
pub mod RequestLemmas
pub mod ExchangeLemmas
pub mod PeerLemmas
pub mod TrafficLemmas
pub mod ServingLemmas
