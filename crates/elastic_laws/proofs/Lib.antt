pub mod BatchLaws
pub mod ChoiceLaws
pub mod LookupLaws
pub mod Never
pub mod QuotaLaws
pub mod ScheduleLaws
pub mod WalkLaws
