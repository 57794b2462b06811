pub mod Limits
pub mod Numbering
pub mod Order
pub mod Sights
pub mod held
