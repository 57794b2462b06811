pub mod Making
pub mod Steps
pub mod Appending
pub mod WholeFile
pub mod FileTable
pub mod Telling
mod Examples
