pub mod Bytes
pub mod Digits
pub mod Signs
pub mod Texts
pub mod machinery
