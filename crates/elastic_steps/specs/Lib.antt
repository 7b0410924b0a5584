pub mod Insert
pub mod InsertLaws
