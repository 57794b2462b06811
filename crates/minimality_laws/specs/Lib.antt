pub mod SimpleTree
pub mod TakesPart
