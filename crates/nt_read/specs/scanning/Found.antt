-- Carries proofs only: the terms for which the parts of a line stand, as the code keeps them.
use Rattle.std.specs.Prelude.{◌≡◌, ℕ, List, map, length}
use Rattle.std.specs.Char.{to_ascii_lowercase}
use Rattle.std.specs.Str.{chars, IsUtf8}
use Rattle.rdf_text.specs.Marks.{quotation_mark}
use Rattle.bm_term.specs.Canonical.{RdfTerm, iri, blank, plain, tagged, literal_of, IsTerm, canonical_chars}
use Rattle.rdf_text.specs.scanning.Text.{after_first}
use Rattle.bm_term.specs.declared.triple.Triple.{Triple}
use Rattle.nt_read.specs.declared.found.FoundText.{FoundText}
use Rattle.nt_read.specs.declared.found.FoundText.TheVariants.{Raw, Escaped}
use Rattle.nt_read.specs.declared.found.LiteralTail.{LiteralTail}
use Rattle.nt_read.specs.declared.found.LiteralTail.TheVariants.{Nothing, Tag, Datatype}
use Rattle.nt_read.specs.declared.found.FoundTerm.{FoundTerm}
use Rattle.nt_read.specs.declared.found.FoundTerm.TheVariants.{Iri, Blank, Literal}
use Rattle.nt_read.specs.declared.found.FoundTriple.{FoundTriple}
use Rattle.rdf_escapes.specs.scanning.Pieces.{values}
use Rattle.rdf_escapes.specs.scanning.Iris.{iri_piece}
use Rattle.rdf_escapes.specs.scanning.Strings.{string_piece}
use Rattle.nt_read.specs.Line.{triple_of}

-- the characters of an IRI, and those of a lexical form
unfoldable pub iri_of : FoundText → List ℕ
iri_of (Raw text) = values iri_piece (after_first (chars text.now))
iri_of (Escaped body) = values iri_piece (chars body.now)

unfoldable pub lexical_of : FoundText → List ℕ
lexical_of (Raw text) = values (string_piece quotation_mark) (after_first (chars text.now))
lexical_of (Escaped body) = values (string_piece quotation_mark) (chars body.now)

-- the label of a blank node, and a language tag, from their texts
unfoldable pub label_of : List ℕ → List ℕ
label_of text = after_first (after_first (chars text))

unfoldable pub tag_of : List ℕ → List ℕ
tag_of text = map to_ascii_lowercase (chars text)

-- how many bytes of a text are copied at once
abbrev pub raw_length : FoundText → ℕ
raw_length (Raw text) = length text.now
raw_length (Escaped body) = 0

-- what is kept as raw is the canonical text of the term
abbrev pub IsRawTextOf : List ℕ → RdfTerm → Type 0
IsRawTextOf text term = IsUtf8 text × (chars text ≡ canonical_chars term)

abbrev pub IsIriText : FoundText → Type 0
IsIriText (Raw text) = IsRawTextOf text.now (iri (iri_of (Raw text)))
IsIriText (Escaped body) = IsUtf8 body.now

abbrev pub IsStringText : FoundText → Type 0
IsStringText (Raw text) = IsRawTextOf text.now (plain (lexical_of (Raw text)))
IsStringText (Escaped body) = IsUtf8 body.now

abbrev pub IsTailText : LiteralTail → Type 0
IsTailText Nothing = Unit {0}
IsTailText (Tag tag) = IsUtf8 tag.now
IsTailText (Datatype datatype) = IsIriText datatype

abbrev pub IsFoundText : FoundTerm → Type 0
IsFoundText (Iri quoted) = IsIriText quoted
IsFoundText (Blank text) = IsRawTextOf text.now (blank (label_of text.now))
IsFoundText (Literal string tail) = IsStringText string × IsTailText tail

-- a literal of this lexical form
unfoldable pub literal_with : List ℕ → LiteralTail → RdfTerm
literal_with lexical Nothing = plain lexical
literal_with lexical (Tag tag) = tagged lexical (tag_of tag.now)
literal_with lexical (Datatype datatype) = literal_of lexical (iri_of datatype)

unfoldable pub term_found : FoundTerm → RdfTerm
term_found (Iri quoted) = iri (iri_of quoted)
term_found (Blank text) = blank (label_of text.now)
term_found (Literal string tail) = literal_with (lexical_of string) tail

abbrev pub terms_found : FoundTriple → RdfTerm × RdfTerm × RdfTerm
terms_found found = (term_found found.subject, term_found found.predicate, term_found found.object)

-- each is a text of its term
pub record AreFoundTexts (found : FoundTriple) : Type 0 where
  pub subject : IsFoundText found.subject
  pub predicate : IsFoundText found.predicate
  pub object : IsFoundText found.object

pub record AreTerms (found : FoundTriple) : Type 0 where
  pub subject : IsTerm (term_found found.subject)
  pub predicate : IsTerm (term_found found.predicate)
  pub object : IsTerm (term_found found.object)

abbrev pub triple_found : FoundTriple → Triple
triple_found found = triple_of (term_found found.subject) (term_found found.predicate) (term_found found.object)
