pub mod Sets
pub mod Members
pub mod Core
pub mod Removal
pub mod Left
pub mod Chains
pub mod Reach
pub mod Nodes
