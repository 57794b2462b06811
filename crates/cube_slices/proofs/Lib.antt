pub mod Examples
pub mod LineLaws
pub mod PairLaws
pub mod EntryLaws
pub mod SliceLaws
pub mod SeekLaws
pub mod WritingLaws
pub mod FoldLaws
