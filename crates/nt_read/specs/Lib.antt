pub use Rattle.bm_term.specs.Triple
pub mod Feeding
pub mod Line
pub mod Lines
pub mod Pieces
pub mod Terminals
pub mod scanning
