pub mod FlatRows
pub mod JoinOrder
pub mod Joined
pub mod steps
