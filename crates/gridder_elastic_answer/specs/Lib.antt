pub mod Say
pub mod SayLaws
