pub mod Mask
pub mod Region
pub mod Loan
