pub mod Computed
pub mod Places
pub mod Refusals
pub mod Walk
