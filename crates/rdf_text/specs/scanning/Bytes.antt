-- Carries proofs only: classes of bytes, for walks over a text byte by byte. A byte belongs to a class where it is a member
-- of the class of characters, or a byte of a character beyond ASCII, which all are members.
use Rattle.std.specs.Prelude.{ℕ, Bool, ◌||◌, ◌&&◌, nat_le, is_none}
use Rattle.rdf_text.specs.Classes.{is_scalar, is_irichar}
use Rattle.rdf_text.specs.Spelling.{escape_letter}

-- a byte of IRICHARs
unfoldable pub is_iri_byte : ℕ → Bool
is_iri_byte b = nat_le 128 b || is_irichar b

-- a character that stands for itself in a canonical literal, and a byte of such characters
unfoldable pub is_raw_char : ℕ → Bool
is_raw_char c = is_scalar c && is_none (escape_letter c)

unfoldable pub is_raw_byte : ℕ → Bool
is_raw_byte b = nat_le 128 b || is_none (escape_letter b)
