pub mod FiftyLaws
pub mod FiftyTallies
pub mod Meaning
pub mod Agree
