mod Examples
pub mod PlacedSets
pub mod Partners
pub mod Limits
pub mod StepSizes
pub mod NodePlans
pub mod WholeTrees
