pub mod Cases
pub mod CheckLaws
pub mod Counted
pub mod FillLaws
pub mod FirstInsertLaws
pub mod OneBucket
pub mod OneBucketLaws
