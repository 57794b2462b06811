-- Each of the seven conditions holds or does not hold. So bytes are an index, or one condition is the first that fails.
use Rattle.std.proofs.Common.{◌≡◌, ◌⊎◌, inl, inr, ℕ, ◌+◌, ◌<◌, List, [], ◌∷◌, length, get_or, take, Contains, refl, sym, ap, ◌∙◌, subst, arith}
use Rattle.std.proofs.lemmas.Bool.{cases_eq, cases_order}
use Rattle.run_rows.specs.declared.form.RowForm.{RowForm}
use Rattle.term_numbers.specs.Limits.{max_triples}
use Rattle.term_numbers.specs.Order.{Numbered}
use Rattle.index_file.proofs.DecidedLaws.{Decided, through, both, all_three, decided_at_most, decided_same_list, decided_same_triple, decided_Contains, decided_of_members}
use Rattle.index_file.proofs.DecidedLawsOfSlices.{decided_CutWhole, decided_AreSlices}
use Rattle.index_file.proofs.DecidedLawsOfTerms.{decided_AreCanonical, decided_AreOrdered}
use Rattle.index_file.proofs.StepLaws.{each_family}
use Rattle.index_file.specs.Conditions.{HeaderIsKnown, LengthsAgree, TermsAreOrdered, rows_for, columns_for, AreSlices, RowsAreEncodings, CountsAgree, FamiliesAgree, IsIndex}
use Rattle.index_file.specs.Damage.{Holds, part_number, IsFirstFailing}
use Rattle.index_file.specs.Image.{terms_in, group_in, triples_in}
use Rattle.index_file.specs.Layout.{Layout, name, size_for, field, text_count, slice_count, text_starts, slice_starts, layout_in}
use Rattle.index_file.specs.declared.damaged.Part.{Part}
use Rattle.index_file.specs.declared.damaged.Part.TheVariants.{Header, Length, Terms, Directory, Rows, Counts, Agreement}
use Rattle.index_file.specs.declared.family.Family.{Family}
use Rattle.index_file.specs.declared.family.Family.TheVariants.{So, Os, Ps, Po}

-- ---- header, lengths and terms

decided_header : (version : ℕ) (bytes : List ℕ) → Decided (HeaderIsKnown version bytes)
decided_header version bytes =
    through (all_three (decided_at_most 44 (length bytes)) (decided_same_list (take 8 bytes) name) (cases_eq (field bytes 0) version))
    (λ h. record { long = h.0; named = h.1; known = h.2 }) (λ h. (h.long, h.named, h.known))

decided_lengths : (bytes : List ℕ) → Decided (LengthsAgree bytes)
decided_lengths bytes =
    let size = size_for (text_count bytes) (field bytes 6) (slice_count bytes) (field bytes 7) in
    through (all_three (cases_eq (field bytes 8) (length bytes)) (cases_eq size (length bytes)) (decided_at_most (field bytes 5) max_triples))
    (λ h. record { whole = h.0; parts = h.1; few = h.2 }) (λ h. (h.whole, h.parts, h.few))

decided_terms : (bytes : List ℕ) → Decided (TermsAreOrdered bytes)
decided_terms bytes =
    let terms = terms_in (layout_in bytes) in
    through (all_three (decided_CutWhole (field bytes 6) (text_starts bytes)) (decided_AreCanonical terms) (decided_AreOrdered terms))
    (λ h. record { cut = h.0; canonical = h.1; ordered = h.2 }) (λ h. (h.cut, h.canonical, h.ordered))

-- ---- all four families

decided_of_families : (P : Family → Type 0) → ((f : Family) → Decided (P f)) → Decided ((f : Family) → P f)
decided_of_families P each =
    through (both (both (each So) (each Os)) (both (each Ps) (each Po)))
    (λ h f. each_family P h.0.0 h.0.1 h.1.0 h.1.1 f) (λ all. ((all So, all Os), (all Ps, all Po)))

decided_rows : (form : RowForm) (l : Layout) → Decided (RowsAreEncodings form l)
decided_rows form l =
    decided_of_families (λ f. AreSlices form (rows_for l f) (columns_for l f) (group_in l f)) (λ f. decided_AreSlices form (rows_for l f) (columns_for l f) (group_in l f))

decided_counts : (form : RowForm) (l : Layout) → Decided (CountsAgree form l)
decided_counts form l =
    decided_of_families (λ f. length (triples_in form l f) ≡ l.triples) (λ f. cases_eq (length (triples_in form l f)) l.triples)

decided_agreement : (form : RowForm) (l : Layout) → Decided (FamiliesAgree form l)
decided_agreement form l =
    decided_of_families (λ f. (t : Numbered) → Contains (triples_in form l So) t → Contains (triples_in form l f) t)
    (λ f. decided_of_members (Contains (triples_in form l f)) (decided_Contains decided_same_triple (triples_in form l f)) (triples_in form l So))

-- ---- the parts in order

in_order : List Part
in_order = Header ∷ Length ∷ Terms ∷ Directory ∷ Rows ∷ Counts ∷ Agreement ∷ []

in_its_place : (part : Part) → get_or in_order (part_number part) Header ≡ part
unfolding in_order
in_its_place Header = refl
in_its_place Length = refl
in_its_place Terms = refl
in_its_place Directory = refl
in_its_place Rows = refl
in_its_place Counts = refl
in_its_place Agreement = refl

-- parts with the same place are the same
same_part : (part other : Part) → part_number part ≡ part_number other → part ≡ other
same_part part other same = sym (in_its_place part) ∙ ap (λ n. get_or in_order n Header) same ∙ in_its_place other

module _ (version : ℕ) (form : RowForm) (bytes : List ℕ) where
  -- the condition of each part holds, or it does not
  decided_part : (part : Part) → Decided (Holds version form bytes part)
  decided_part Header = decided_header version bytes
  decided_part Length = decided_lengths bytes
  decided_part Terms = decided_terms bytes
  decided_part Directory = decided_CutWhole (field bytes 7) (slice_starts bytes)
  decided_part Rows = decided_rows form (layout_in bytes)
  decided_part Counts = decided_counts form (layout_in bytes)
  decided_part Agreement = decided_agreement form (layout_in bytes)

  -- the conditions of the first parts hold
  abbrev HoldBefore : ℕ → Type 0
  HoldBefore n = (earlier : Part) → part_number earlier < n → Holds version form bytes earlier

  hold_more : (part : Part) → HoldBefore (part_number part) → Holds version form bytes part → HoldBefore (part_number part + 1)
  hold_more part before holds earlier low =
      elim (cases_eq (part_number part) (part_number earlier)) as (λ _. Holds version form bytes earlier) [
        | inl same ↦ subst (Holds version form bytes) (same_part part earlier same) holds
        | inr other ↦ before earlier (omega arith)
      ]

  abbrev Answer : Type 0
  Answer = IsIndex version form bytes ⊎ ((part : Part) × IsFirstFailing version form bytes part)

  -- a part is the first that fails, or the search goes on
  try_part : (part : Part) → (HoldBefore (part_number part + 1) → Answer) → HoldBefore (part_number part) → Answer
  try_part part go_on before = elim (decided_part part) as (λ _. Answer) [
    | inl holds ↦ go_on (hold_more part before holds)
    | inr fails ↦ inr (part, record { fails = fails; before = before })
  ]

  all_hold : HoldBefore 7 → IsIndex version form bytes
  all_hold before = record {
    header = before Header (omega arith);
    lengths = before Length (omega arith);
    terms = before Terms (omega arith);
    directory = before Directory (omega arith);
    rows = before Rows (omega arith);
    counts = before Counts (omega arith);
    agreement = before Agreement (omega arith);
  }

  -- bytes are an index, or a condition is the first that fails
  pub index_or_first_failing : IsIndex version form bytes ⊎ ((part : Part) × IsFirstFailing version form bytes part)
  index_or_first_failing =
      try_part Header (try_part Length (try_part Terms (try_part Directory (try_part Rows (try_part Counts (try_part Agreement (λ before. inl (all_hold before)))))))) (λ earlier low. absurd (omega arith))

  holds_of_index : IsIndex version form bytes → (part : Part) → Holds version form bytes part
  holds_of_index index Header = index.header
  holds_of_index index Length = index.lengths
  holds_of_index index Terms = index.terms
  holds_of_index index Directory = index.directory
  holds_of_index index Rows = index.rows
  holds_of_index index Counts = index.counts
  holds_of_index index Agreement = index.agreement

  -- not both
  pub index_has_none_failing : (part : Part) → IsIndex version form bytes → IsFirstFailing version form bytes part → ⊥
  index_has_none_failing part index failing = failing.fails (holds_of_index index part)

  -- and only one
  pub first_failing_is_one : (part other : Part) → IsFirstFailing version form bytes part → IsFirstFailing version form bytes other → part ≡ other
  first_failing_is_one part other first second =
      elim (cases_order (part_number part) (part_number other)) as (λ _. part ≡ other) [
        | inl same ↦ same_part part other same
        | inr apart ↦ absurd (elim apart as (λ _. ⊥) [ inl low ↦ first.fails (second.before part low) | inr high ↦ second.fails (first.before other high) ])
      ]
