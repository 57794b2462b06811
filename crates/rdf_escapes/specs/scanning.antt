-- Carries proofs only: how texts are read from their front, as the functions of src/ do it. That they read what the grammar
-- says is proved in proofs/.
pub mod Escapes
pub mod Iris
pub mod Pieces
pub mod Strings
