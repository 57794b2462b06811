pub mod Examples
pub mod AndLaws
pub mod ZeroLaws
pub mod SetLaws
pub mod NumberLaws
pub mod LeastLaws
pub mod RunLaws
pub mod RowLaws
