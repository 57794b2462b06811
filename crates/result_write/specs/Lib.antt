pub mod Json
pub mod Columns
pub mod TermText
pub mod JsonResult
pub mod Tsv
pub mod ResultText
pub mod Printing
pub mod held
