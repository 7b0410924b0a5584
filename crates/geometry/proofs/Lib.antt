mod ActiveBatch
mod Fill
pub mod ReportLaws
