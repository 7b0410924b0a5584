pub mod Open
pub mod OpenLaws
