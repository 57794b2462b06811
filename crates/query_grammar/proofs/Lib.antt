pub mod Carrying
pub mod Counts
pub mod Depth
pub mod Endings
mod Examples
pub mod Following
pub mod GrammarLaws
mod Growing
mod Productions
pub mod Remainders
pub mod Runs
mod Weakenings
