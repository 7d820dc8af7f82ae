pub mod TrimLemmas
