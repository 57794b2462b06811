-- Carries proofs only: how the code keeps rows, and when two cells are the same.
pub mod CellOrder
pub mod Flat
