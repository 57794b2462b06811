pub mod Binding
pub mod Search
pub mod Order
pub mod Cursor
