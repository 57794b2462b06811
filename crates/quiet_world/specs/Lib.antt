pub mod Quiet
pub mod QuietCode
