pub mod Rules
pub mod machinery
