mod Cuts
mod Examples
mod FewColumns
mod Kept
mod Lists
pub mod Moved
