pub mod AcceptedTrees
pub mod Matches
pub mod steps
