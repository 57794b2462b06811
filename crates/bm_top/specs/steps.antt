pub mod Ending
pub mod Over
pub mod Pieces
pub mod Printing
pub mod Requested
pub mod Store
pub mod Undecided
pub mod VerdictOf
