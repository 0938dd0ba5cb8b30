pub mod LineLaws
pub mod CutLaws
pub mod RuleLaws
pub mod SectionLaws
pub mod Exact
