pub mod Covering
pub mod Examples
pub mod Minimal
pub mod NodeRows
pub mod Removing
pub mod Rising
pub mod SetVars
