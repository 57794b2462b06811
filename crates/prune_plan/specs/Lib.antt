pub mod Accepted
pub mod steps
