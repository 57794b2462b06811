-- The terminals of N-Triples, each with what it stands for. N-Triples 1.1, section 7. Two more are in rdf_escapes: IsIriRef
-- is IRIREF, and IsString, with the quotation mark, is STRING_LITERAL_QUOTE.
use Rattle.std.specs.Prelude.{◌≡◌, ℕ, Bool, ◌||◌, ◌==◌, IsTrue, List, ◌++◌, map}
use Rattle.std.specs.Char.{to_ascii_lowercase}
use Rattle.std.specs.List.{list_all}
use Rattle.rdf_text.specs.Classes.{is_nt_label_first, is_nt_pn_chars}
use Rattle.rdf_text.specs.Marks.{tab, space}
use Rattle.rdf_text.specs.Names.{IsLangtag, IsBlankNodeLabel}
use Rattle.rdf_text.specs.Text.{IsLongest, IsOf}

-- LANGTAG, with the tag in lower case
abbrev pub IsLowerLangtag : List ℕ → List ℕ → Type 0
IsLowerLangtag text tag = (written : List ℕ) × IsLangtag text written × (tag ≡ map to_ascii_lowercase written)

-- BLANK_NODE_LABEL ::= '_:' (PN_CHARS_U | [0-9]) ((PN_CHARS | '.')* PN_CHARS)?, with the label
abbrev pub IsNtLabel : List ℕ → List ℕ → Type 0
IsNtLabel text label = IsBlankNodeLabel is_nt_label_first is_nt_pn_chars text label

-- a terminal that is always written so, and stands for nothing more
abbrev pub IsMark : List ℕ → List ℕ → Unit {0} → Type 0
IsMark mark text value = text ≡ mark

-- white space
unfoldable pub is_blank : ℕ → Bool
is_blank c = c == space || c == tab

abbrev pub AreBlanks : List ℕ → Type 0
AreBlanks blanks = IsTrue (list_all is_blank blanks)

-- The whole begins with white space and a terminal, which is the longest text of the rule there. It stands for the
-- value, and the rest follows it.
pub record BeginsWithTerminal {V : Type 0} (Rule : List ℕ → V → Type 0) (whole : List ℕ) (value : V) (rest : List ℕ) : Type 0 where
  pub blanks : List ℕ
  pub text : List ℕ
  pub are_blanks : AreBlanks blanks
  pub is : Rule text value
  pub longest : IsLongest (IsOf Rule) text rest
  pub split : whole ≡ blanks ++ (text ++ rest)
