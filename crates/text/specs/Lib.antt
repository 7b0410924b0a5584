pub mod Fields
pub mod Line
pub mod LineLaws
