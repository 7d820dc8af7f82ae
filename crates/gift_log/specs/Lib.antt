pub mod Gifts
pub mod Links
