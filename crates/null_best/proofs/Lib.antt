pub mod Bests
pub mod Better
pub mod Cuts
pub mod GroupSteps
pub mod Improving
pub mod Marking
pub mod Orders
pub mod Windows
