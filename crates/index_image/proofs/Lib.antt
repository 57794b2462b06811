pub mod CutLaws
pub mod Examples
pub mod ItemLaws
pub mod MeasureLaws
pub mod OrderLaws
pub mod PieceWriterLaws
pub mod SpreadLaws
