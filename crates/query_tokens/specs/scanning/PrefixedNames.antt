-- Carries proofs only: prefixed names, prefixes and words, read from the front of a text.
use Rattle.std.specs.Prelude.{◌≡◌, ℕ, ◌<◌, Bool, ◌==◌, if◌then◌else◌, Option, Some, None, option_and_then, List, [], ◌∷◌, ◌++◌, length}
use Rattle.std.specs.Option.{option_map, option_map_or}
use Rattle.std.specs.Str.{encode_utf8_all}
use Rattle.rdf_text.specs.Classes.{is_pn_chars_base, is_sparql_pn_chars, is_hex, is_letter}
use Rattle.rdf_text.specs.Marks.{percent_sign, full_stop, colon, backslash}
use Rattle.rdf_text.specs.Names.{is_dotted}
use Rattle.rdf_text.specs.scanning.Names.{after_dotted_name}
use Rattle.rdf_text.specs.scanning.Repetition.{after_pieces}
use Rattle.rdf_text.specs.scanning.Text.{after_char, after_run, after_some}
use Rattle.query_tokens.specs.declared.token.TokenKind.TheVariants.{Prefix, Prefixed, Word}
use Rattle.query_tokens.specs.PrefixedNames.{is_local_escape, is_local_first, is_local_inner}
use Rattle.query_tokens.specs.scanning.ScannedToken.{ScannedToken}

-- what follows one member of a class, two hexadecimal digits, a piece of a local name
abbrev pub after_one : (ℕ → Bool) → List ℕ → Option (List ℕ)
after_one members [] = None
after_one members (c ∷ cs) = if members c then Some cs else None

unfoldable pub after_two_digits : List ℕ → Option (List ℕ)
after_two_digits text = option_and_then (after_one is_hex) (after_one is_hex text)

unfoldable pub after_local_piece : (ℕ → Bool) → List ℕ → Option (List ℕ)
after_local_piece members [] = None
after_local_piece members (c ∷ cs) =
    if members c then Some cs
    else (if c == percent_sign then after_two_digits cs
    else (if c == backslash then after_one is_local_escape cs else None))

abbrev pub is_full_stop : ℕ → Bool
is_full_stop c = c == full_stop

-- any number of '.', and a piece that is none
unfoldable pub after_dotted_piece : List ℕ → Option (List ℕ)
after_dotted_piece text = after_local_piece is_local_inner (after_run is_full_stop text)

unfoldable pub after_local : List ℕ → Option (List ℕ)
after_local text = option_map (after_pieces after_dotted_piece) (after_local_piece is_local_first text)

-- a prefixed name or a prefix, where the prefix is read; the kind, and what follows
abbrev pub scan_local : List ℕ → ScannedToken
scan_local text = option_map_or (λ rest. (Prefixed, rest)) (after_local text) (Prefix, text)

-- a prefix that has a name
unfoldable pub after_prefix : List ℕ → Option (List ℕ)
after_prefix text = option_and_then (after_char colon) (after_dotted_name is_pn_chars_base is_sparql_pn_chars text)

-- a character of a name, or '.'
abbrev pub is_prefix_char : ℕ → Bool
is_prefix_char c = is_dotted is_sparql_pn_chars c

-- no prefix that has a name begins in the text where more bytes than these are left
abbrev pub HasNoPrefixBefore : ℕ → List ℕ → Type 0
HasNoPrefixBefore left text =
    (front rest : List ℕ) → text ≡ front ++ rest → left < length (encode_utf8_all rest) → after_prefix rest ≡ None

-- a prefixed name, a prefix or a word
unfoldable pub scan_name : List ℕ → Option ScannedToken
scan_name text =
    option_map_or (λ rest. Some (scan_local rest)) (after_prefix text) (option_map (λ rest. (Word, rest)) (after_some is_letter text))
