pub mod Schedule
pub mod Choice
pub mod Lasting
pub mod GateLaws
pub mod Lookup
pub mod HoldsLaws
pub mod Examples
