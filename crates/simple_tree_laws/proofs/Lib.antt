pub mod Examples
pub mod NodeSets
pub mod SimpleTrees
