-- Carries proofs only: numbers, read from the front of a text.
use Rattle.std.specs.Prelude.{ℕ, ◌==◌, if◌then◌else◌, Option, Some, None, List, [], ◌∷◌}
use Rattle.std.specs.Option.{option_map, option_map_or}
use Rattle.rdf_text.specs.Classes.{is_digit}
use Rattle.rdf_text.specs.Marks.{full_stop}
use Rattle.rdf_text.specs.scanning.Text.{after_char, after_run, after_some}
use Rattle.query_tokens.specs.declared.token.TokenKind.{TokenKind}
use Rattle.query_tokens.specs.declared.token.TokenKind.TheVariants.{Integer, Decimal, Double}
use Rattle.query_tokens.specs.Numbers.{is_number_sign, is_exponent_mark}
use Rattle.query_tokens.specs.scanning.ScannedToken.{ScannedToken}

-- what follows a sign, if there is one, and what follows an exponent
abbrev pub after_sign : List ℕ → List ℕ
after_sign [] = []
after_sign (c ∷ cs) = if is_number_sign c then cs else c ∷ cs

unfoldable pub after_exponent : List ℕ → Option (List ℕ)
after_exponent [] = None
after_exponent (c ∷ cs) = if is_exponent_mark c then after_some is_digit (after_sign cs) else None

-- a number of this kind, which an exponent makes a double
abbrev pub with_exponent : TokenKind → List ℕ → ScannedToken
with_exponent kind text = option_map_or (λ rest. (Double, rest)) (after_exponent text) (kind, text)

-- where a '.' with no digit before it is read
unfoldable pub scan_fraction : List ℕ → Option ScannedToken
scan_fraction text = option_map (with_exponent Decimal) (after_some is_digit text)

-- where digits are read: the text begins at the '.', and the digits follow it
unfoldable pub scan_after_point : List ℕ → List ℕ → ScannedToken
scan_after_point text digits =
    option_map_or (λ rest. (Double, rest)) (after_exponent (after_run is_digit digits))
    (option_map_or (λ rest. (Decimal, rest)) (after_some is_digit digits) (Integer, text))

unfoldable pub scan_after_digits : List ℕ → ScannedToken
scan_after_digits text = option_map_or (scan_after_point text) (after_char full_stop text) (with_exponent Integer text)

-- a number without its sign
unfoldable pub scan_number : List ℕ → Option ScannedToken
scan_number [] = None
scan_number (c ∷ cs) =
    if is_digit c then Some (scan_after_digits (after_run is_digit cs))
    else (if c == full_stop then scan_fraction cs else None)
