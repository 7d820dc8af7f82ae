pub mod Rooms
pub mod SiteNumbers
pub mod Parts
pub mod Indices
pub mod Replies
pub mod Steps
pub mod Fits
