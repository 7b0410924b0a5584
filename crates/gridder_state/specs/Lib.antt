pub mod State
pub mod StateLaws
pub mod BlockLaws
