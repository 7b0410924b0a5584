pub mod Stays
pub mod InsertLaws
pub mod FreshLaws
pub mod PlaceLaws
pub mod SettleLaws
