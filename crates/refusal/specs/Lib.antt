pub mod Table
pub mod Draw
