-- Carries proofs only: what the code holds, as the computation sees it.
pub mod Builds
pub mod Groups
pub mod Namespaces
pub mod Nodes
pub mod Readers
pub mod Scopes
