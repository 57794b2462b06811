pub mod Numbers
pub mod Pairs
pub mod Pieces
pub mod Writing
