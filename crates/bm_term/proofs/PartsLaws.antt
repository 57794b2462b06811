-- The parts of bytes, from the scan of their characters.
use Rattle.std.proofs.Common.{◌≡◌, ℕ, Bool, true, ◌&&◌, is_some, IsSome, IfSome, Option, Some, None, List, [], ◌∷◌, ◌++◌, refl, ap, ◌∙◌, sym, subst}
use Rattle.std.specs.Option.{option_map}
use Rattle.std.specs.Str.{chars, IsUtf8, is_utf8, encode_utf8_all}
use Rattle.std.proofs.lemmas.Str.{is_utf8-from_IsUtf8, IsUtf8-from_is_utf8, chars-encodes, encodes-chars, encodes-append, scalars-chars}
use lib.Utf8.{encode}
use Rattle.std.proofs.Math.Logic.{∥∥₁_elim}
use Rattle.std.proofs.lemmas.Bool.{and_parts}
use Rattle.std.specs.Cmp.Derive.{both_true}
use mathlib.Core.Bool.{Bool-set}
use Rattle.std.proofs.lemmas.Option.{same_Some}
use Rattle.bm_term.specs.declared.term_parts.TermKind.{TermKind}
use Rattle.bm_term.specs.declared.term_parts.TermKind.TheVariants.{Iri, Blank, Plain, Tagged, Typed}
use Rattle.bm_term.specs.declared.term_parts.Parts.{Parts}
use Rattle.bm_term.specs.Canonical.{RdfTerm, IsTerm, kind_of, body_of, tail_of, built, canonical_chars, canonical_text, IsCanonical, iri, blank, plain, tagged, typed}
use Rattle.bm_term.specs.Parts.{IsBodyOf, Shows, ArePartsOf}
use Rattle.bm_term.specs.scanning.Terms.{ScannedParts, scan_term, shown}
use Rattle.bm_term.proofs.TermScalars.{canonical_scalars}
use Rattle.bm_term.proofs.TermTexts.{parts_of, scan_term-tells, scan_term-again}

-- a canonical text is UTF-8
pub canonical_utf8 : (bytes : List ℕ) → IsCanonical bytes → IsUtf8 bytes
canonical_utf8 bytes text = (canonical_chars text.term, (canonical_scalars text.term text.is, sym text.spelled))

-- the characters of a canonical text
chars-canonical : (bytes : List ℕ) (term : RdfTerm) → IsTerm term → bytes ≡ canonical_text term → chars bytes ≡ canonical_chars term
chars-canonical bytes term is spelled = ap chars spelled ∙ chars-encodes (canonical_chars term) (canonical_scalars term is)

-- a canonical text is read as the parts of its term
pub scans_canonical : (bytes : List ℕ) (term : RdfTerm) → IsTerm term → bytes ≡ canonical_text term → scan_term (chars bytes) ≡ Some (parts_of term)
scans_canonical bytes term is spelled = rw (chars-canonical bytes term is spelled) (scan_term-again term is)

-- the marks between the parts are ASCII
encode-built : (kind : TermKind) (body tail : List ℕ) → encode_utf8_all (built kind body tail) ≡ built kind (encode_utf8_all body) (encode_utf8_all tail)
unfolding encode
encode-built Iri body tail = rw encodes-append refl
encode-built Blank body tail = refl
encode-built Plain body tail = rw encodes-append refl
encode-built Tagged body tail = rw encodes-append refl
encode-built Typed body tail = rw (encodes-append body (34 ∷ 94 ∷ 94 ∷ 60 ∷ (tail ++ 62 ∷ [])), encodes-append tail (62 ∷ [])) refl

-- the body of a literal spells its lexical form
term_is_body_of : (term : RdfTerm) (body : List ℕ) → IsTerm term → body ≡ encode_utf8_all (body_of term) → IsBodyOf (kind_of term) body
term_is_body_of (iri cs) body is spelled = tt
term_is_body_of (blank label) body is spelled = tt
term_is_body_of (plain lexical) body is spelled = (lexical, record { characters = is; spelled = spelled })
term_is_body_of (tagged lexical tag) body is spelled = (lexical, record { characters = is.0; spelled = spelled })
term_is_body_of (typed lexical datatype) body is spelled = (lexical, record { characters = is.0; spelled = spelled })

module _ (bytes : List ℕ) (bytes_utf8 : IsUtf8 bytes) where
  -- what was read of the characters
  pub record Found (result : Option Parts) : Type 0 where
    -- the parts are those that were read
    pub parts : option_map shown result ≡ scan_term (chars bytes)
    -- they are UTF-8
    pub utf8 : IfSome result (λ p. IsUtf8 p.body.now × IsUtf8 p.tail.now)

  -- where parts are found, the bytes are canonical
  pub found_is_canonical : (result : Option Parts) → Found result → IsSome result → IsCanonical bytes
  found_is_canonical None found some = absurd (cc)
  found_is_canonical (Some p) found some =
      let tells = scan_term-tells (chars bytes) (shown p) (scalars-chars bytes bytes_utf8) (sym found.parts) in
      record { term = tells.term; is = tells.is; spelled = sym (encodes-chars bytes bytes_utf8) ∙ ap encode_utf8_all tells.spelled }

  -- where the bytes are canonical, parts are found
  pub found_where_canonical : (result : Option Parts) → Found result → IsCanonical bytes → IsSome result
  found_where_canonical None found text =
      let e : ◌≡◌ {A = Option ScannedParts} None (Some (parts_of text.term)) = found.parts ∙ scans_canonical bytes text.term text.is text.spelled in
      absurd (cc)
  found_where_canonical (Some p) found is = refl

  -- the parts of a term are those of its text
  found_shows : (p : Parts) → Found (Some p) → (term : RdfTerm) → IsTerm term → bytes ≡ canonical_text term → Shows p term
  found_shows p found term is spelled =
      let same : shown p ≡ parts_of term = same_Some (shown p) (parts_of term) (found.parts ∙ scans_canonical bytes term is spelled) in
      record {
        kind = ap (λ (r : ScannedParts). r.0) same;
        body = sym (encodes-chars p.body.now found.utf8.0) ∙ ap (λ (r : ScannedParts). encode_utf8_all r.1) same;
        tail = sym (encodes-chars p.tail.now found.utf8.1) ∙ ap (λ (r : ScannedParts). encode_utf8_all r.2) same;
      }

  -- what is found are the parts
  pub found_are_parts : (result : Option Parts) → Found result → IfSome result (ArePartsOf bytes)
  found_are_parts None found = tt
  found_are_parts (Some p) found =
      let text = found_is_canonical (Some p) found refl in
      let term = text.term in
      let shows = found_shows p found term text.is text.spelled in
      record {
        of_term = found_shows p found;
        rebuilt = text.spelled ∙ encode-built (kind_of term) (body_of term) (tail_of term)
            ∙ sym (ap (λ kind. built kind p.body.now p.tail.now) shows.kind ∙ ap (λ body. built (kind_of term) body p.tail.now) shows.body ∙ ap (λ tail. built (kind_of term) (encode_utf8_all (body_of term)) tail) shows.tail);
        kind = record { canonical = text; kind_is = sym shows.kind };
        body = subst (λ kind. IsBodyOf kind p.body.now) (sym shows.kind) (term_is_body_of term p.body.now text.is shows.body);
        body_utf8 = found.utf8.0;
        tail_utf8 = found.utf8.1;
      }

-- that a text is canonical can be tested, so a text that is known to be canonical is the text of a term
tests_canonical : List ℕ → Bool
tests_canonical bytes = is_utf8 bytes && is_some (scan_term (chars bytes))

-- canonical bytes pass the test
canonical_passes : (bytes : List ℕ) → IsCanonical bytes → tests_canonical bytes ≡ true
unfolding tests_canonical
canonical_passes bytes text =
    both_true (is_utf8-from_IsUtf8 bytes (canonical_utf8 bytes text)) (rw (scans_canonical bytes text.term text.is text.spelled) refl)

-- bytes that pass it are canonical
passes_canonical : (bytes : List ℕ) → tests_canonical bytes ≡ true → IsCanonical bytes
unfolding tests_canonical
passes_canonical bytes e =
    let (utf8, some) = and_parts (is_utf8 bytes) (is_some (scan_term (chars bytes))) e in
    let bytes_utf8 = IsUtf8-from_is_utf8 bytes utf8 in
    elim (scan_term (chars bytes)) as (λ r. scan_term (chars bytes) ≡ r → is_some r ≡ true → IsCanonical bytes) [
      | None ↦ λ read h. absurd (cc)
      | Some found ↦ λ read h.
          let tells = scan_term-tells (chars bytes) found (scalars-chars bytes bytes_utf8) read in
          record { term = tells.term; is = tells.is; spelled = sym (encodes-chars bytes bytes_utf8) ∙ ap encode_utf8_all tells.spelled }
    ] refl some

-- that some bytes are canonical gives the term whose text they are
pub IsCanonical-had : (bytes : List ℕ) → ∥ IsCanonical bytes ∥₁ → IsCanonical bytes
IsCanonical-had bytes h = passes_canonical bytes (∥∥₁_elim h (Bool-set (tests_canonical bytes) true) (canonical_passes bytes))
