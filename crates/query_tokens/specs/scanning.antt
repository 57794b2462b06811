-- Carries proofs only: how tokens are read from the front of a text, as the functions of src/ do it. That they read what the
-- grammar says is proved in proofs/.
pub mod Blanks
pub mod Iris
pub mod Numbers
pub mod PrefixedNames
pub mod ScannedToken
pub mod Strings
pub mod Tokens
pub mod Variables
