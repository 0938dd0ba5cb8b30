pub mod Grid
pub mod Listed
pub mod Sum
pub mod Rows
pub mod machinery
