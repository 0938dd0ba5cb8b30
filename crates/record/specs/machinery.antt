pub mod Packed
pub mod Glance
pub mod Columns
pub mod Counts
