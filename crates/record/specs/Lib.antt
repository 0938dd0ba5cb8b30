pub mod Table
pub mod Cut
pub mod Rules
pub mod Breaks
pub mod machinery
pub mod Says
pub mod Names
pub mod Files
