-- Carries proofs only: triple patterns by number, their pairs and masks, and the numbers of a tree.
pub mod Made
pub mod Masks
pub mod Numbers
pub mod Parts
