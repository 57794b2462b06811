-- What is written of a literal part by part is its canonical text.
use Rattle.std.proofs.Common.{◌≡◌, ◌≢◌, ℕ, true, false, List, [], ◌∷◌, ◌++◌, refl, ap, ◌∙◌, sym}
use Rattle.std.specs.Prelude.{codes, bytes_eq}
use Rattle.std.specs.List.{list_all}
use Rattle.std.specs.Str.{chars}
use Rattle.std.proofs.lemmas.Slice.Eq.{bytes_eq-Decides}
use Rattle.std.proofs.lemmas.Str.{encodes-IsAscii}
use Rattle.bm_term.specs.Canonical.{iri, plain, typed, literal_of, IsTerm, canonical_text, xsd_string}
use Rattle.rdf_text.specs.Classes.{is_scalar, is_irichar}
use Rattle.rdf_text.specs.Marks.{circumflex}
use Rattle.rdf_text.specs.scanning.Text.{after_first}
use Rattle.bm_term.proofs.Inverse.{canonical_text-injective}
use Rattle.bm_term.proofs.LiteralLaws.{literal_of-xsd_string, literal_of-other}
use Rattle.rdf_text.proofs.TextLemmas.{IsAscii-list_all}
use Rattle.bm_term.proofs.WrittenTerms.{typed_bytes}
use Rattle.nt_read.specs.declared.found.FoundText.{FoundText}
use Rattle.nt_read.specs.declared.found.FoundText.TheVariants.{Raw, Escaped}
use Rattle.nt_read.specs.scanning.Found.{iri_of}
use Rattle.rdf_escapes.proofs.Members.{iri_values-irichars}

-- the text of a literal with a datatype, written part by part
pub datatype_bytes : (first second third datatype lexical cs : List ℕ) → first ≡ canonical_text (plain lexical) → second ≡ first ++ (circumflex ∷ circumflex ∷ []) → third ≡ second ++ datatype → datatype ≡ canonical_text (iri cs) → third ≡ canonical_text (typed lexical cs)
datatype_bytes first second third datatype lexical cs string mark name same =
    typed_bytes lexical cs first third string
    (name ∙ ap (λ xs. xs ++ datatype) mark ∙ ap (λ xs. first ++ (circumflex ∷ circumflex ∷ []) ++ xs) same)

-- xsd:string
abbrev pub xsd_string_text : List ℕ
xsd_string_text = codes "<http://www.w3.org/2001/XMLSchema#string>"

-- the text of the IRI of xsd:string
xsd_string-text : canonical_text (iri xsd_string) ≡ xsd_string_text
unfolding xsd_string
xsd_string-text = encodes-IsAscii xsd_string_text (IsAscii-list_all xsd_string_text refl)

-- it is an IRI
xsd_string_is_iri : list_all is_irichar xsd_string ≡ true
unfolding xsd_string is_irichar is_scalar
xsd_string_is_iri = refl

-- a datatype with this text is xsd:string
pub is_xsd_string : (cs datatype : List ℕ) → IsTerm (iri cs) → datatype ≡ canonical_text (iri cs) → bytes_eq datatype xsd_string_text ≡ true → cs ≡ xsd_string
is_xsd_string cs datatype is same equal =
    let texts : canonical_text (iri cs) ≡ canonical_text (iri xsd_string) =
    sym same ∙ (bytes_eq-Decides datatype xsd_string_text).0 equal ∙ sym xsd_string-text in
    let terms = canonical_text-injective (iri cs) (iri xsd_string) is xsd_string_is_iri texts in
    cc

-- a datatype with another text is another one
pub is_other_type : (cs datatype : List ℕ) → datatype ≡ canonical_text (iri cs) → bytes_eq datatype xsd_string_text ≡ false → cs ≢ xsd_string
is_other_type cs datatype same differs equal =
    let texts : datatype ≡ xsd_string_text = same ∙ ap (λ xs. canonical_text (iri xs)) equal ∙ xsd_string-text in
    let yes = (bytes_eq-Decides datatype xsd_string_text).1 texts in
    absurd (cc)

-- a literal of xsd:string is written without its datatype
pub plain_of_string : (text lexical cs : List ℕ) → cs ≡ xsd_string → text ≡ canonical_text (plain lexical) → text ≡ canonical_text (literal_of lexical cs)
plain_of_string text lexical cs same is =
    is ∙ ap canonical_text (sym (ap (literal_of lexical) same ∙ literal_of-xsd_string lexical))

-- a literal of another datatype is written with it
pub typed_of_other : (text lexical cs : List ℕ) → cs ≢ xsd_string → text ≡ canonical_text (typed lexical cs) → text ≡ canonical_text (literal_of lexical cs)
typed_of_other text lexical cs other is = is ∙ ap canonical_text (sym (literal_of-other lexical cs other))

-- the characters of an IRI are members of its class
pub iri_of-members : (quoted : FoundText) → list_all is_irichar (iri_of quoted) ≡ true
unfolding iri_of
iri_of-members (Raw text) = iri_values-irichars (after_first (chars text.now))
iri_of-members (Escaped body) = iri_values-irichars (chars body.now)
