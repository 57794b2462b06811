pub mod Classes
pub mod Comments
pub mod Marks
pub mod Names
pub mod Repetition
pub mod Spelling
pub mod Text
pub mod scanning
