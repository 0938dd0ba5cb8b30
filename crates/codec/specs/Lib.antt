pub mod Values
pub mod Writes
pub mod Refusals
pub mod Calls
pub mod machinery
