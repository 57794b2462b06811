-- Carries proofs only: rows of places, as names of the rows of a pattern.
pub mod Named
