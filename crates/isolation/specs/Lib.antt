pub mod Partitions
pub mod Worked
