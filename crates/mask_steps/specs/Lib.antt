pub mod Held
pub mod Measure
pub mod steps
