pub mod EngineRows
pub mod Examples
pub mod NamedRows
pub mod TestQueries
