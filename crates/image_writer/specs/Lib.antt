pub mod Dirty
pub mod DirtyLaws
pub mod EntryFieldLaws
pub mod EntryLaws
pub mod ImageLaws
pub mod Pieces
pub mod Writing
pub mod WritingLaws
