-- Carries proofs only: how the code goes about it.
pub mod Counts
pub mod Entries
pub mod Keyed
pub mod Numbered
pub mod Renumbered
pub mod Seen
pub mod Table
