pub mod TenLaws
pub mod FillLaws
pub mod GridLaws
pub mod Meaning
pub mod SumLaws
pub mod RowsLaws
