-- Carries proofs only: what is sent to the writer of JSON, and what the buffer holds while a text is printed.
pub mod Written
pub mod NamedColumns
pub mod RowData
pub mod Buffered
pub mod TextPieces
