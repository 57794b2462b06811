-- Carries proofs only: what is found in front of a text.
use Rattle.std.specs.Prelude.{ℕ, List}
use Rattle.query_tokens.specs.declared.token.TokenKind.{TokenKind}

-- the kind of a token, and what follows it
abbrev pub ScannedToken : Type 0
ScannedToken = TokenKind × List ℕ
