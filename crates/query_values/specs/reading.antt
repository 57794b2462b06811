-- Carries proofs only: what tokens stand for, as functions of their texts. The rules are in Iris, Literals and Variables.
pub mod Values
