use Rattle.std.proofs.Common.{◌≤◌, ◌-◌, List, ◌++◌, length, map}
use denote.Text.{Utf8}
use denote.Shadow.{shadow}
use Rattle.std.specs.Str.{chars}
use Rattle.query_tokens.specs.scanning.PrefixedNames.{HasNoPrefixBefore}
use Rattle.query_tokens.specs.Token.{Lexeme, shown}
use Rattle.query_tokens.specs.Tokens.{AreTokensFrom, AreTokens}
use Rattle.query_tokens.proofs.source.tokens_of.Given as goal

-- whatever the tokens of what is left are, after those so far they are those of the source
abbrev pub invariant-loop-token : goal.invariant-loop-token
invariant-loop-token l =
    shadow (Utf8 l.rest) × (length l.rest ≤ length l.source) × HasNoPrefixBefore l.unprefixed (chars l.rest)
    × ((others : List Lexeme) → AreTokensFrom (length l.source - length l.rest) (chars l.rest) others → AreTokens l.source (map shown l.tokens.items ++ others))

abbrev pub decreases-loop-token : goal.decreases-loop-token
decreases-loop-token l = length (chars l.rest)
