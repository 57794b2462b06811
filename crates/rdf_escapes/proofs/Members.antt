-- What the characters of an IRI and of a string stand for are members of IRICHAR, and characters.
use Rattle.std.proofs.Common.{◌≡◌, ℕ, Bool, ◌&&◌, ◌||◌, ◌==◌, not, nat_lt, true, Some, inl, inr, List, [], ◌∷◌, refl, ◌∙◌, sym, arith}
use Rattle.std.proofs.lemmas.Bool.{and_parts}
use Rattle.std.proofs.lemmas.Bool.Decides.{nat_tests}
use Rattle.std.specs.Cmp.Derive.{both_true}
use Rattle.std.specs.List.{list_all}
use Rattle.std.specs.Str.{all_scalars}
use lib.Utf8.{scalar}
use Rattle.rdf_text.specs.Classes.{is_scalar, is_irichar, is_excluded_mark}
use Rattle.rdf_text.specs.Spelling.{echar_value}
use Rattle.rdf_text.specs.Marks.{line_feed, carriage_return, backslash}
use Rattle.rdf_text.specs.Repetition.{Star}
use Rattle.rdf_escapes.specs.Iris.{IsIriPiece}
use Rattle.rdf_escapes.specs.Strings.{is_string_char, IsStringPiece}
use Rattle.rdf_escapes.specs.scanning.Pieces.{values}
use Rattle.rdf_escapes.specs.scanning.Iris.{iri_piece}
use Rattle.rdf_escapes.specs.scanning.Strings.{string_piece}
use Rattle.rdf_text.proofs.Scalars.{is_scalar-scalar}
use Rattle.rdf_escapes.proofs.PieceLaws.{splits}
use Rattle.rdf_escapes.proofs.CharacterLaws.{iri_piece-forward, iri_piece-passes, string_piece-forward, string_piece-passes}

-- the values of pieces are members, where each is
pub members_of : (P : List ℕ → ℕ → Type 0) (p : ℕ → Bool) → ((text : List ℕ) (c : ℕ) → P text c → p c ≡ true) → (vs text : List ℕ) → Star P text vs → list_all p vs ≡ true
members_of P p each [] text star = refl
members_of P p each (v ∷ vs) text (front, rest, piece, star, split) = both_true (each front v piece) (members_of P p each vs rest star)

-- an IRICHAR is a character
pub irichar_is_character : (c : ℕ) → is_irichar c ≡ true → scalar c ≡ true
unfolding is_irichar
irichar_is_character c e =
    let (above, unmarked) = and_parts (is_scalar c && nat_lt 0x20 c) (not (is_excluded_mark c)) e in
    let (is, after_space) = and_parts (is_scalar c) (nat_lt 0x20 c) above in
    sym (is_scalar-scalar c) ∙ is

-- members of IRICHAR are characters
pub irichars_are_characters : (cs : List ℕ) → list_all is_irichar cs ≡ true → all_scalars cs ≡ true
irichars_are_characters [] all = refl
irichars_are_characters (c ∷ cs) all =
    let (first, others) = and_parts (is_irichar c) (list_all is_irichar cs) all in
    both_true (irichar_is_character c first) (irichars_are_characters cs others)

-- Unicode scalar values are characters
pub scalars_are_characters : (cs : List ℕ) → list_all is_scalar cs ≡ true → all_scalars cs ≡ true
scalars_are_characters [] all = refl
scalars_are_characters (c ∷ cs) all =
    let (first, others) = and_parts (is_scalar c) (list_all is_scalar cs) all in
    both_true (sym (is_scalar-scalar c) ∙ first) (scalars_are_characters cs others)

-- what the characters of an IRI stand for are IRICHARs
pub iri_values-irichars : (text : List ℕ) → list_all is_irichar (values iri_piece text) ≡ true
iri_values-irichars text =
    let (front, star, split) = splits iri_piece iri_piece-forward IsIriPiece iri_piece-passes text in
    members_of IsIriPiece is_irichar (λ piece c is. is.0) (values iri_piece text) front star

-- a raw character of a string is a Unicode scalar value
string_char_is_scalar : (mark c : ℕ) → is_string_char mark c ≡ true → is_scalar c ≡ true
unfolding is_string_char
string_char_is_scalar mark c e = (and_parts (is_scalar c) (not (c == mark || c == backslash || c == line_feed || c == carriage_return)) e).0

-- an escape by a letter gives one
echar_is_scalar : (letter c : ℕ) → echar_value letter ≡ Some c → is_scalar c ≡ true
unfolding echar_value is_scalar
echar_is_scalar letter c e = grind (arith, nat_tests)

-- each character of a string is one
pub string_piece_is_scalar : (mark : ℕ) (text : List ℕ) (c : ℕ) → IsStringPiece mark text c → is_scalar c ≡ true
string_piece_is_scalar mark text c (inl (member, raw)) = string_char_is_scalar mark c member
string_piece_is_scalar mark text c (inr (inl (letter, value, spelled))) = echar_is_scalar letter c value
string_piece_is_scalar mark text c (inr (inr is)) = is.scalar

-- what the characters of a string stand for are characters
pub string_values-characters : (mark : ℕ) (text : List ℕ) → all_scalars (values (string_piece mark) text) ≡ true
string_values-characters mark text =
    let (front, star, split) = splits (string_piece mark) (string_piece-forward mark) (IsStringPiece mark) (string_piece-passes mark) text in
    scalars_are_characters (values (string_piece mark) text)
    (members_of (IsStringPiece mark) is_scalar (string_piece_is_scalar mark) (values (string_piece mark) text) front star)
