pub mod CharacterLaws
pub mod EscapeLaws
pub mod Examples
pub mod Members
pub mod PieceLaws
pub mod SpellingLaws
pub mod WritingLaws
