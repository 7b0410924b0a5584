pub mod Query
pub mod QueryLaws
pub mod QuerySteps
pub mod Looking
