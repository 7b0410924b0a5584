pub mod Reading
pub mod ReadingLaws
pub mod State
pub mod StateLaws
pub mod ReportLaws
