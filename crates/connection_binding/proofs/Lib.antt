pub mod NewLinks
pub mod PieceLemmas
pub mod WindowLemmas
