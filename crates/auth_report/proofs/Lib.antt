pub mod Owning
pub mod Tracing
pub mod Bodies
pub mod Written
pub mod OnlyTexts
