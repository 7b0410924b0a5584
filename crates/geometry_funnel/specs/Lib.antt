pub mod SpecialGate
pub mod SpecialGateLaws
