pub mod CallLaws
pub mod CellLaws
pub mod LentLaws
pub mod Fits
pub mod Others
pub mod Border
pub mod Back
pub mod Promises
