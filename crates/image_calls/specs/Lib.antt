pub mod CallLaws
pub mod Calls
pub mod Fill
pub mod FillLaws
pub mod Loading
pub mod LoadingLaws
