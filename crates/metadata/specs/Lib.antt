pub mod Words
pub mod Told
pub mod Faults
pub mod Lines
pub mod Rules
pub mod Searches
