pub mod Words
pub mod WordByWord
