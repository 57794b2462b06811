pub mod Placed
pub mod NodePlan
