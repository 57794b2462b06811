-- What can be told of texts: whether they are terms of a kind, and whether groups of terms are in order.
use Rattle.std.proofs.Common.{◌≡◌, inl, inr, ℕ, ◌++◌, true, Option, Some, None, List, Contains, refl, sym, ap, ◌∙◌}
use Rattle.std.proofs.lemmas.Bool.{cases_Bool}
use Rattle.std.proofs.lemmas.Str.{is_utf8-from_IsUtf8, IsUtf8-from_is_utf8, encodes-chars, scalars-chars}
use Rattle.std.specs.Str.{chars, is_utf8, encode_utf8_all}
use Rattle.bm_term.proofs.Inverse.{canonical_text-injective}
use Rattle.bm_term.proofs.PartsLaws.{canonical_utf8, scans_canonical}
use Rattle.bm_term.proofs.TermTexts.{scan_term-tells}
use Rattle.bm_term.specs.Canonical.{kind_of, IsCanonical, IsTextOf}
use Rattle.bm_term.specs.Triple.{IsNode}
use Rattle.bm_term.specs.declared.term_parts.TermKind.{TermKind}
use Rattle.bm_term.specs.declared.term_parts.TermKind.TheVariants.{Iri, Blank, Plain, Tagged, Typed}
use Rattle.bm_term.specs.scanning.Terms.{ScannedParts, scan_term}
use Rattle.term_numbers.specs.Numbering.{Terms}
use Rattle.term_numbers.specs.Order.{text_cmp}
use Rattle.index_file.proofs.DecidedLaws.{Decided, through, both, all_three, one_of, denied, decided_same_list, decided_Contains, decided_All, decided_of_members, decided_sorted}
use Rattle.index_file.specs.Conditions.{AreCanonical, AreOrdered}

-- a text of UTF-8 is canonical where a term is read of its characters
decided_read : (text : List ℕ) → is_utf8 text ≡ true → (read : Option ScannedParts) → scan_term (chars text) ≡ read → Decided (IsCanonical text)
decided_read text utf8 None is = inr (λ canonical. let again = scans_canonical text canonical.term canonical.is canonical.spelled in absurd (cc))
decided_read text utf8 (Some read) is =
    let fits = IsUtf8-from_is_utf8 text utf8 in
    let tells = scan_term-tells (chars text) read (scalars-chars text fits) is in
    inl (record { term = tells.term; is = tells.is; spelled = sym (encodes-chars text fits) ∙ ap encode_utf8_all tells.spelled })

decided_canonical : (text : List ℕ) → Decided (IsCanonical text)
decided_canonical text = elim (cases_Bool (is_utf8 text)) as (λ _. Decided (IsCanonical text)) [
  | inl utf8 ↦ decided_read text utf8 (scan_term (chars text)) refl
  | inr not_utf8 ↦ inr (λ canonical. let utf8 = is_utf8-from_IsUtf8 text (canonical_utf8 text canonical) in absurd (cc))
]

is_iri : (kind : TermKind) → Decided (kind ≡ Iri)
is_iri Iri = inl refl
is_iri Blank = inr (λ e. absurd (cc))
is_iri Plain = inr (λ e. absurd (cc))
is_iri Tagged = inr (λ e. absurd (cc))
is_iri Typed = inr (λ e. absurd (cc))

is_blank : (kind : TermKind) → Decided (kind ≡ Blank)
is_blank Iri = inr (λ e. absurd (cc))
is_blank Blank = inl refl
is_blank Plain = inr (λ e. absurd (cc))
is_blank Tagged = inr (λ e. absurd (cc))
is_blank Typed = inr (λ e. absurd (cc))

-- a canonical text has the kind of its one term
decided_kind : (kind : TermKind) → ((other : TermKind) → Decided (other ≡ kind)) → (text : List ℕ) → Decided (IsCanonical text) → Decided (IsTextOf kind text)
decided_kind kind is_kind text (inl canonical) =
    through (is_kind (kind_of canonical.term)) (λ same. record { canonical = canonical; kind_is = same })
    (λ is.
    let other = is.canonical in
    ap kind_of (canonical_text-injective canonical.term other.term canonical.is other.is (sym canonical.spelled ∙ other.spelled)) ∙ is.kind_is)
decided_kind kind is_kind text (inr fails) = inr (λ is. fails is.canonical)

decided_iri : (text : List ℕ) → Decided (IsTextOf Iri text)
decided_iri text = decided_kind Iri is_iri text (decided_canonical text)

decided_node : (text : List ℕ) → Decided (IsNode text)
decided_node text = one_of (decided_iri text) (decided_kind Blank is_blank text (decided_canonical text))

pub decided_AreCanonical : (terms : Terms) → Decided (AreCanonical terms)
decided_AreCanonical terms =
    through
    (both (both (decided_All IsNode decided_node terms.shared) (decided_All IsNode decided_node terms.subjects))
    (both (decided_All IsCanonical decided_canonical terms.objects) (decided_All (IsTextOf Iri) decided_iri terms.predicates)))
    (λ h. record { shared = h.0.0; subjects = h.0.1; objects = h.1.0; predicates = h.1.1 })
    (λ h. ((h.shared, h.subjects), (h.objects, h.predicates)))

-- no text stands in both
decided_apart : (xs ys : List (List ℕ)) → Decided ((x : List ℕ) → Contains xs x → Contains ys x → ⊥)
decided_apart xs ys = decided_of_members (λ x. Contains ys x → ⊥) (λ x. denied (decided_Contains decided_same_list ys x)) xs

pub decided_AreOrdered : (terms : Terms) → Decided (AreOrdered terms)
decided_AreOrdered terms =
    through
    (all_three (both (decided_sorted text_cmp terms.shared) (decided_sorted text_cmp terms.subjects))
    (both (decided_sorted text_cmp terms.objects) (decided_sorted text_cmp terms.predicates))
    (both (decided_apart terms.shared (terms.subjects ++ terms.objects)) (decided_apart terms.subjects terms.objects)))
    (λ h. record { shared = h.0.0; subjects = h.0.1; objects = h.1.0; predicates = h.1.1; shared_alone = h.2.0; subjects_alone = h.2.1 })
    (λ h. ((h.shared, h.subjects), (h.objects, h.predicates), (h.shared_alone, h.subjects_alone)))
