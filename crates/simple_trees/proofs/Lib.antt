pub mod Listing
pub mod Trees
