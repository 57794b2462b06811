pub mod Examples
pub mod RowLaws
pub mod RunLaws
pub mod ByteLaws
pub mod SearchLaws
pub mod LeastLaws
pub mod EncodingLaws
pub mod WritingLaws
