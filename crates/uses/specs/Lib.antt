pub mod Answers
pub mod Recalls
