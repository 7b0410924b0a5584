pub mod Fuel
pub mod WriteAfterRead
pub mod ReadAfterWrite
pub mod TableLaws
pub mod RoundTrip
pub mod CallRoundTrip
pub mod Examples
