pub mod Groups
pub mod Findings
pub mod Cells
pub mod Types
pub mod Lent
