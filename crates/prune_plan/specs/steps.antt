-- Carries proofs only: what members hold on masks, and what steps over a node, a round and rounds leave.
pub mod Members
pub mod Nodes
