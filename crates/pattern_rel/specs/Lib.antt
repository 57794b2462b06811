pub mod Shapes
pub mod Left
pub mod Folds
pub mod Bounds
pub mod steps
