pub mod SeventyLaws
pub mod Meaning
pub mod Agree
