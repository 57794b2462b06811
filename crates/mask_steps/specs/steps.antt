pub mod Cuts
pub mod Sides
