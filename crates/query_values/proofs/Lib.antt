pub mod LocalValues
pub mod SourceTokens
pub mod SpelledTokens
pub mod SpelledValues
pub mod TermLaws
pub mod TokenLaws
pub mod ValueExamples
