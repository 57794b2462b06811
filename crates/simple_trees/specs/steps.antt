-- Carries proofs only: a tree as lists.
pub mod Listed
