pub mod Cells
pub mod Findings
