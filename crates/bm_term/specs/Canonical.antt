-- The terms of RDF (RDF 1.1 Concepts, section 3), and the one text that each has here.
use Rattle.std.specs.Prelude.{◌≡◌, ◌≢◌, ℕ, if◌then◌else◌, IsTrue, bytes_eq, codes, List, [], ◌∷◌, ◌++◌}
use Rattle.std.specs.List.{list_all}
use Rattle.std.specs.Str.{all_scalars, encode_utf8_all}
use Rattle.bm_term.specs.declared.term_parts.TermKind.{TermKind}
use Rattle.bm_term.specs.declared.term_parts.TermKind.TheVariants.{Iri, Blank, Plain, Tagged, Typed}
use Rattle.rdf_text.specs.Marks.{quotation_mark, colon, less_than, greater_than, at_sign, circumflex, low_line}
use Rattle.rdf_text.specs.Classes.{is_lower_letter, is_lower_alphanumeric, is_nt_label_first, is_nt_pn_chars, is_irichar}
use Rattle.rdf_text.specs.Names.{IsDottedName, IsLanguageTag}
use Rattle.rdf_text.specs.Spelling.{escaped}

-- A term, by its characters: the IRI; the label of a blank node; the lexical form of a literal of xsd:string, of one
-- with a language tag, and of one with the IRI of another datatype.
pub data RdfTerm : Type 0 where
  iri : List ℕ → RdfTerm
  blank : List ℕ → RdfTerm
  plain : List ℕ → RdfTerm
  tagged : List ℕ → List ℕ → RdfTerm
  typed : List ℕ → List ℕ → RdfTerm

unfoldable pub xsd_string : List ℕ
xsd_string = codes "http://www.w3.org/2001/XMLSchema#string"

-- a literal with the IRI of a datatype; one of xsd:string is the plain one
unfoldable pub literal_of : List ℕ → List ℕ → RdfTerm
literal_of lexical datatype = if bytes_eq datatype xsd_string then plain lexical else typed lexical datatype

-- BLANK_NODE_LABEL without its '_:'
abbrev pub IsLabel : List ℕ → Type 0
IsLabel label = IsDottedName is_nt_label_first is_nt_pn_chars label

-- LANGTAG without its '@', in lower case
abbrev pub IsLowerTag : List ℕ → Type 0
IsLowerTag tag = IsLanguageTag is_lower_letter is_lower_alphanumeric tag

-- Which characters a term may have. An IRI is any text of IRICHARs, also a relative one and the empty one; a datatype is
-- any of them but xsd:string, also rdf:langString; and a tag is any one of the grammar, in BCP 47 or not.
abbrev pub IsTerm : RdfTerm → Type 0
IsTerm (iri chars) = IsTrue (list_all is_irichar chars)
IsTerm (blank label) = IsLabel label
IsTerm (plain lexical) = IsTrue (all_scalars lexical)
IsTerm (tagged lexical tag) = IsTrue (all_scalars lexical) × IsLowerTag tag
IsTerm (typed lexical datatype) =
    IsTrue (all_scalars lexical) × IsTrue (list_all is_irichar datatype) × (datatype ≢ xsd_string)

-- the parts of a term's text
abbrev pub kind_of : RdfTerm → TermKind
kind_of (iri chars) = Iri
kind_of (blank label) = Blank
kind_of (plain lexical) = Plain
kind_of (tagged lexical tag) = Tagged
kind_of (typed lexical datatype) = Typed

abbrev pub body_of : RdfTerm → List ℕ
body_of (iri chars) = chars
body_of (blank label) = label
body_of (plain lexical) = escaped lexical
body_of (tagged lexical tag) = escaped lexical
body_of (typed lexical datatype) = escaped lexical

abbrev pub tail_of : RdfTerm → List ℕ
tail_of (iri chars) = []
tail_of (blank label) = []
tail_of (plain lexical) = []
tail_of (tagged lexical tag) = tag
tail_of (typed lexical datatype) = datatype

-- what the parts of a kind make together: <body>, _:body, "body", "body"@tail, "body"^^<tail>
abbrev pub built : TermKind → List ℕ → List ℕ → List ℕ
built Iri body tail = less_than ∷ (body ++ greater_than ∷ [])
built Blank body tail = low_line ∷ colon ∷ body
built Plain body tail = quotation_mark ∷ (body ++ quotation_mark ∷ [])
built Tagged body tail = quotation_mark ∷ (body ++ quotation_mark ∷ at_sign ∷ tail)
built Typed body tail =
    quotation_mark ∷ (body ++ quotation_mark ∷ circumflex ∷ circumflex ∷ less_than ∷ (tail ++ greater_than ∷ []))

-- the characters of a term's canonical text, and its bytes
abbrev pub canonical_chars : RdfTerm → List ℕ
canonical_chars term = built (kind_of term) (body_of term) (tail_of term)

abbrev pub canonical_text : RdfTerm → List ℕ
canonical_text term = encode_utf8_all (canonical_chars term)

-- the text is the canonical text of a term
pub record IsCanonical (text : List ℕ) : Type 0 where
  pub term : RdfTerm
  pub is : IsTerm term
  pub spelled : text ≡ canonical_text term

-- and that term is of this kind
pub record IsTextOf (kind : TermKind) (text : List ℕ) : Type 0 where
  pub canonical : IsCanonical text
  pub kind_is : kind_of canonical.term ≡ kind
