-- Carries proofs only: how the code goes about it.
pub mod Measuring
pub mod Spreading
pub mod Writing
