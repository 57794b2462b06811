-- Carries proofs only: how the parts of a text are read from its front, as the functions of src/ do it.
pub mod Terms
