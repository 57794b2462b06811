pub mod Meanings
pub mod World
pub mod Reading
pub mod FileTable
pub mod Schedule
pub mod MemWorld
pub mod MemCode
