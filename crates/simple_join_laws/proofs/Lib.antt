pub mod Cycles
pub mod Examples
pub mod FlatRoots
pub mod Forests
pub mod Linked
pub mod NodeEnds
pub mod SimpleRows
pub mod Walking
