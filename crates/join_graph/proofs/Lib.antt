pub mod Sizes
pub mod Bits
pub mod Members
pub mod Counts
pub mod Cores
pub mod Removals
pub mod Joins
pub mod Parts
mod Examples
