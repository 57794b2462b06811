pub mod Shown
pub mod Seeks
pub mod Writing
