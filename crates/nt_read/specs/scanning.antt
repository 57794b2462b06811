-- Carries proofs only: how lines are read from their front, as the functions of src/ do it. That they read what the grammar
-- says is proved in proofs/.
pub mod Found
pub mod Line
pub mod Lines
pub mod Taking
pub mod Terminals
