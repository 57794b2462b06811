pub mod WholeWay
pub mod Terms
pub mod Shown
