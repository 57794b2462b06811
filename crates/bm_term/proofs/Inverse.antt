-- A term is got back from its parts, and so from its text.
use Rattle.std.proofs.Common.{◌≡◌, ap, ◌∙◌, sym, refl, Some}
use Rattle.std.proofs.lemmas.Option.{same_Some}
use Rattle.std.specs.Str.{chars}
use Rattle.bm_term.specs.Canonical.{RdfTerm, iri, blank, plain, tagged, typed, IsTerm, kind_of, body_of, tail_of, canonical_text}
use Rattle.bm_term.specs.Parts.{term_of}
use Rattle.bm_term.specs.scanning.Terms.{ScannedParts, scan_term}
use Rattle.bm_term.proofs.TermTexts.{parts_of}
use Rattle.rdf_text.proofs.Unescaping.{unescaped-escaped}
use Rattle.bm_term.proofs.PartsLaws.{scans_canonical}

-- the parts of a term make it again
pub term_of-parts : (term : RdfTerm) → term_of (kind_of term) (body_of term) (tail_of term) ≡ term
term_of-parts (iri cs) = refl
term_of-parts (blank label) = refl
term_of-parts (plain lexical) = ap plain (unescaped-escaped lexical)
term_of-parts (tagged lexical tag) = ap (λ form. tagged form tag) (unescaped-escaped lexical)
term_of-parts (typed lexical datatype) = ap (λ form. typed form datatype) (unescaped-escaped lexical)

-- terms with the same text are the same
pub canonical_text-injective : (s t : RdfTerm) → IsTerm s → IsTerm t → canonical_text s ≡ canonical_text t → s ≡ t
canonical_text-injective s t s_is t_is same =
    let first : scan_term (chars (canonical_text s)) ≡ Some (parts_of s) = scans_canonical (canonical_text s) s s_is refl in
    let second : scan_term (chars (canonical_text s)) ≡ Some (parts_of t) = scans_canonical (canonical_text s) t t_is same in
    let parts : parts_of s ≡ parts_of t = same_Some (parts_of s) (parts_of t) (sym first ∙ second) in
    sym (term_of-parts s) ∙ ap (λ (r : ScannedParts). term_of r.0 r.1 r.2) parts ∙ term_of-parts t
