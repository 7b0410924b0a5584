pub mod Calls
pub mod CallLaws
pub mod Enter
pub mod EnterLaws
pub mod OpenLaws
