pub mod Say
pub mod SayLaws
pub mod Calls
pub mod CallLaws
