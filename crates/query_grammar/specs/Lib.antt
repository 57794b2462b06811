pub mod Expecting
pub mod Grammar
pub mod Roles
pub mod Terminals
pub mod Tree
pub mod Words
