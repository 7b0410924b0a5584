pub mod Operations
pub mod Run
