pub mod Broken
pub mod Verdict
pub mod Words
pub mod Obeys
pub mod Line
pub mod Cases
pub mod machinery
