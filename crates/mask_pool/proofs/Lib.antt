pub mod Examples
pub mod OverlapLaws
pub mod FullLaws
pub mod PartLaws
pub mod RegionLaws
pub mod Loans
pub mod Steps
pub mod LentBeside
