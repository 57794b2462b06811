-- Carries proofs only: how the meaning of a query is computed from its tokens, one by one. The rules are in Denotes, and in
-- the files that it names.
pub mod Building
pub mod Faults
pub mod Meaning
pub mod Names
pub mod Symbols
pub mod Reading
