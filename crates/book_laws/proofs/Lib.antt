pub mod Lifting
pub mod Merging
pub mod Stepping
pub mod Counting
pub mod Growing
pub mod Gifts
pub mod Sharing
