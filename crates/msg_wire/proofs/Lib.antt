pub mod PartLaws
pub mod RowLaws
pub mod EntryLaws
pub mod MessageLaws
pub mod ItemLaws
