pub mod Check
pub mod CheckLaws
