pub mod Tests
pub mod CutLemmas
pub mod LineLemmas
pub mod ColonLemmas
