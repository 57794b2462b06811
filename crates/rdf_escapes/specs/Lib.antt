pub use Rattle.rdf_text.specs.Classes
pub use Rattle.rdf_text.specs.Repetition
pub use Rattle.rdf_text.specs.Spelling
pub use Rattle.rdf_text.specs.Text
pub mod Escapes
pub mod Iris
pub mod Strings
pub mod scanning
