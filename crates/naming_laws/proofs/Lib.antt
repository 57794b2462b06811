pub mod Examples
pub mod NamedRows
pub mod Names
