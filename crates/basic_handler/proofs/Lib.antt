pub mod BasicLemmas
