-- What the parts of a canonical text are.
use Rattle.std.specs.Prelude.{◌≡◌, ℕ, List}
use Rattle.std.specs.Str.{IsUtf8, encode_utf8_all}
use Rattle.bm_term.specs.declared.term_parts.TermKind.{TermKind}
use Rattle.bm_term.specs.declared.term_parts.TermKind.TheVariants.{Iri, Blank, Plain, Tagged, Typed}
use Rattle.bm_term.specs.declared.term_parts.Parts.{Parts}
use Rattle.bm_term.specs.Canonical.{RdfTerm, iri, blank, plain, tagged, typed, IsTerm, kind_of, body_of, tail_of, canonical_text, built, IsTextOf}
use Rattle.rdf_text.specs.Spelling.{IsBody, unescaped}

-- the body of a literal, of each kind, spells a lexical form
abbrev pub IsBodyOf : TermKind → List ℕ → Type 0
IsBodyOf Plain body = IsBody body
IsBodyOf Tagged body = IsBody body
IsBodyOf Typed body = IsBody body
IsBodyOf Iri body = Unit {0}
IsBodyOf Blank body = Unit {0}

-- they show the term: its kind, and the bytes of its body and of its tail
pub record Shows (parts : Parts) (term : RdfTerm) : Type 0 where
  pub kind : parts.kind ≡ kind_of term
  pub body : parts.body.now ≡ encode_utf8_all (body_of term)
  pub tail : parts.tail.now ≡ encode_utf8_all (tail_of term)

-- they show the term whose text it is, and build the text again
pub record ArePartsOf (text : List ℕ) (parts : Parts) : Type 0 where
  pub of_term : (term : RdfTerm) → IsTerm term → text ≡ canonical_text term → Shows parts term
  pub rebuilt : text ≡ built parts.kind parts.body.now parts.tail.now
  pub kind : IsTextOf parts.kind text
  pub body : IsBodyOf parts.kind parts.body.now
  pub body_utf8 : IsUtf8 parts.body.now
  pub tail_utf8 : IsUtf8 parts.tail.now

-- the term that has this kind and these parts: a literal's body is unescaped
abbrev pub term_of : TermKind → List ℕ → List ℕ → RdfTerm
term_of Iri body tail = iri body
term_of Blank body tail = blank body
term_of Plain body tail = plain (unescaped body)
term_of Tagged body tail = tagged (unescaped body) tail
term_of Typed body tail = typed (unescaped body) tail
