pub mod Places
pub mod Latest
pub mod Keeping
pub mod CallLemmas
pub mod Prompting
pub mod HistoryLemmas
pub mod RoomOfPrompts
