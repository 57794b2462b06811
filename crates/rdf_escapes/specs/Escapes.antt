-- Escapes: a backslash, and what stands for a character after it. N-Triples 1.1, section 7, rules ECHAR and UCHAR;
-- SPARQL 1.1 Query, section 19.8, rule ECHAR, and section 19.2. Here an escape by a number that is no character is none.
use Rattle.std.specs.Prelude.{◌≡◌, ℕ, ◌+◌, ◌-◌, ◌*◌, ◌==◌, if◌then◌else◌, IsTrue, Option, Some, None, List, [], ◌∷◌, length, fold}
use Rattle.std.specs.Int.{is_in_range}
use Rattle.std.specs.List.{list_all}
use Rattle.rdf_text.specs.Classes.{is_scalar, is_digit, is_hex}
use Rattle.rdf_text.specs.Spelling.{echar_value}
use Rattle.rdf_text.specs.Marks.{backslash, letter_u, capital_u}

-- ECHAR ::= '\' [tbnrf"'\]: the text stands for the character
abbrev pub IsEchar : List ℕ → ℕ → Type 0
IsEchar text c = (letter : ℕ) × (echar_value letter ≡ Some c) × (text ≡ backslash ∷ letter ∷ [])

-- the value of a digit of HEX: 0 to 9, A to F or a to f
unfoldable pub hex_value : ℕ → ℕ
hex_value c = if is_digit c then c - 0x30 else (if is_in_range 0x41 0x46 c then c - 0x37 else c - 0x57)

-- the number that digits of HEX spell
abbrev pub hex_number : List ℕ → ℕ
hex_number digits = fold (λ n c. 16 * n + hex_value c) 0 digits

-- how many digits follow the letter of a UCHAR
unfoldable pub uchar_length : ℕ → Option ℕ
uchar_length letter = if letter == letter_u then Some 4 else (if letter == capital_u then Some 8 else None)

-- UCHAR ::= '\u' HEX HEX HEX HEX | '\U' HEX HEX HEX HEX HEX HEX HEX HEX: the text stands for the character whose
-- number the digits spell, which is a Unicode scalar value
pub record IsUchar (text : List ℕ) (c : ℕ) : Type 0 where
  pub letter : ℕ
  pub digits : List ℕ
  pub count : uchar_length letter ≡ Some (length digits)
  pub hex : IsTrue (list_all is_hex digits)
  pub number : c ≡ hex_number digits
  pub scalar : IsTrue (is_scalar c)
  pub spelled : text ≡ backslash ∷ letter ∷ digits
