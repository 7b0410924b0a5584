pub mod Gate
pub mod GateLaws
pub mod Answer
pub mod AnswerLaws
