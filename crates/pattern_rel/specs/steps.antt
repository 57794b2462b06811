pub mod Sets
pub mod Walks
pub mod Places
pub mod Opened
pub mod Finds
