-- Carries proofs only: how the code finds the rows that others extend.
pub mod Cuts
pub mod Groups
pub mod Keys
pub mod Marks
pub mod Searches
pub mod Sorted
