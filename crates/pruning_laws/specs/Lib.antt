pub mod Matches
pub mod Passes
pub mod Plans
pub mod Scene
pub mod SceneOf
pub mod Shown
pub mod TreePasses
