-- Carries proofs only: how a text is read from its front, as the functions of src/ do it. That they read what the grammar
-- says is proved in proofs/.
pub mod Bytes
pub mod Names
pub mod Repetition
pub mod Spelling
pub mod Text
