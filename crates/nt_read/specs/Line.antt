-- What a line of N-Triples spells: line ::= (subject predicate object '.')? comment?
-- N-Triples 1.1, section 7, with white space before, between and after the terminals; a line is without its line end,
-- and there is none in it.
use Rattle.std.specs.Prelude.{◌≡◌, ◌≢◌, ℕ, ◌⊎◌, List, [], ◌∷◌, ◌++◌}
use Rattle.std.specs.Str.{chars, IsUtf8}
use Rattle.bm_term.specs.declared.triple.Triple.{Triple}
use Rattle.rdf_text.specs.Marks.{quotation_mark, full_stop, circumflex}
use Rattle.rdf_text.specs.Comments.{IsComment}
use Rattle.bm_term.specs.Canonical.{RdfTerm, iri, blank, plain, tagged, typed, xsd_string, canonical_text}
use Rattle.rdf_escapes.specs.Iris.{IsIriRef}
use Rattle.rdf_escapes.specs.Strings.{IsString}
use Rattle.nt_read.specs.Terminals.{IsNtLabel, IsLowerLangtag, IsMark, AreBlanks, BeginsWithTerminal}

-- subject ::= IRIREF | BLANK_NODE_LABEL
abbrev pub IsSubject : List ℕ → RdfTerm → List ℕ → Type 0
IsSubject whole (iri chars) rest = BeginsWithTerminal IsIriRef whole chars rest
IsSubject whole (blank label) rest = BeginsWithTerminal IsNtLabel whole label rest
IsSubject whole (plain lexical) rest = ⊥
IsSubject whole (tagged lexical tag) rest = ⊥
IsSubject whole (typed lexical datatype) rest = ⊥

-- predicate ::= IRIREF
abbrev pub IsPredicate : List ℕ → RdfTerm → List ℕ → Type 0
IsPredicate whole (iri chars) rest = BeginsWithTerminal IsIriRef whole chars rest
IsPredicate whole (blank label) rest = ⊥
IsPredicate whole (plain lexical) rest = ⊥
IsPredicate whole (tagged lexical tag) rest = ⊥
IsPredicate whole (typed lexical datatype) rest = ⊥

-- STRING_LITERAL_QUOTE LANGTAG
abbrev pub IsTagged : List ℕ → List ℕ → List ℕ → List ℕ → Type 0
IsTagged whole lexical tag rest =
    (after_string : List ℕ) × BeginsWithTerminal (IsString quotation_mark) whole lexical after_string × BeginsWithTerminal IsLowerLangtag after_string tag rest

-- STRING_LITERAL_QUOTE '^^' IRIREF
abbrev pub IsTyped : List ℕ → List ℕ → List ℕ → List ℕ → Type 0
IsTyped whole lexical datatype rest =
    (after_string after_mark : List ℕ) × BeginsWithTerminal (IsString quotation_mark) whole lexical after_string
    × BeginsWithTerminal (IsMark (circumflex ∷ circumflex ∷ [])) after_string tt after_mark × BeginsWithTerminal IsIriRef after_mark datatype rest

-- object ::= IRIREF | BLANK_NODE_LABEL | literal, where literal ::= STRING_LITERAL_QUOTE ('^^' IRIREF | LANGTAG)?
-- A literal without tag and datatype is one of xsd:string.
abbrev pub IsObject : List ℕ → RdfTerm → List ℕ → Type 0
IsObject whole (iri chars) rest = BeginsWithTerminal IsIriRef whole chars rest
IsObject whole (blank label) rest = BeginsWithTerminal IsNtLabel whole label rest
IsObject whole (plain lexical) rest = BeginsWithTerminal (IsString quotation_mark) whole lexical rest ⊎ IsTyped whole lexical xsd_string rest
IsObject whole (tagged lexical tag) rest = IsTagged whole lexical tag rest
IsObject whole (typed lexical datatype) rest = IsTyped whole lexical datatype rest × (datatype ≢ xsd_string)

-- comment?, where a comment has no line end in it
abbrev pub IsCommentOrNothing : List ℕ → Type 0
IsCommentOrNothing text = (text ≡ []) ⊎ IsComment text

-- white space, and then a comment or nothing
pub record IsEnd (whole : List ℕ) : Type 0 where
  pub blanks : List ℕ
  pub rest : List ℕ
  pub are_blanks : AreBlanks blanks
  pub comment : IsCommentOrNothing rest
  pub split : whole ≡ blanks ++ rest

-- subject predicate object '.' comment?
pub record SpellsTerms (whole : List ℕ) (subject predicate object : RdfTerm) : Type 0 where
  pub after_subject : List ℕ
  pub after_predicate : List ℕ
  pub after_object : List ℕ
  pub after_dot : List ℕ
  pub subject_is : IsSubject whole subject after_subject
  pub predicate_is : IsPredicate after_subject predicate after_predicate
  pub object_is : IsObject after_predicate object after_object
  pub dot : BeginsWithTerminal (IsMark (full_stop ∷ [])) after_object tt after_dot
  pub end : IsEnd after_dot

-- three terms as a triple: their canonical texts
abbrev pub triple_of : RdfTerm → RdfTerm → RdfTerm → Triple
triple_of subject predicate object =
    record { subject = canonical_text subject; predicate = canonical_text predicate; object = canonical_text object }

-- the bytes of the line are UTF-8 and spell the triple
pub record Spells (line : List ℕ) (triple : Triple) : Type 0 where
  pub utf8 : IsUtf8 line
  pub subject : RdfTerm
  pub predicate : RdfTerm
  pub object : RdfTerm
  pub terms : SpellsTerms (chars line) subject predicate object
  pub is : triple ≡ triple_of subject predicate object

-- they are UTF-8, and white space and a comment at most
pub record SpellsNothing (line : List ℕ) : Type 0 where
  pub utf8 : IsUtf8 line
  pub end : IsEnd (chars line)

-- they spell no triple, and do not spell nothing
pub record IsBadLine (line : List ℕ) : Type 0 where
  pub spells_none : (triple : Triple) → ¬ Spells line triple
  pub spells_something : ¬ SpellsNothing line
