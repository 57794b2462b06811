pub mod Examples
pub mod NumberLaws
pub mod PairLaws
pub mod PieceLaws
pub mod WritingLaws
