pub mod NumberLoops
pub mod TextLoops
pub mod DigitLaws
pub mod TextLaws
pub mod AtOnceLaws
