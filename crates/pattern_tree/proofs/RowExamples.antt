-- Worked examples: a row of numbers of cells, by computation, and the best of two rows.
use Rattle.std.proofs.Common.{◌≡◌, ◌⊎◌, inl, inr, ℕ, zero, suc, List, [], ◌∷◌, Some, None, IsSome, Contains, refl, sym, subst, lit<, arith}
use Rattle.bm_term.proofs.Elements.{Contains-head, Contains-tail, Contains-single, Contains-cons_cases}
use Rattle.alg_model.specs.Row.{Row, binding, Extends}
use Rattle.pattern_tree.specs.BestRows.{IsExtended, AreBest}
use Rattle.pattern_tree.specs.FlatTable.{row_of}

-- 0 is unbound, and each other number is one more than the value
row_of_cells : row_of (3 ∷ 0 ∷ 1 ∷ []) ≡ Some 2 ∷ None ∷ Some 0 ∷ []
row_of_cells = refl

-- a row that an OPTIONAL left as it was, and one that it extended
abbrev short : Row ℕ
short = Some 1 ∷ None ∷ []

abbrev long : Row ℕ
long = Some 1 ∷ Some 2 ∷ []

abbrev both : List (Row ℕ)
both = short ∷ long ∷ []

long-extends : Extends long short
long-extends zero value h = h
long-extends (suc zero) value h = absurd (cc)
long-extends (suc (suc k)) value h = absurd (cc)

short_is_extended : IsExtended both short
short_is_extended = record { other = long; listed = (1, lit< tt, refl); extends = long-extends; more = (1, refl, refl) }

-- no row of the two binds more than the second
short-more : (var : ℕ) → IsSome (binding short var) → binding long var ≡ None → ⊥
short-more zero some none = absurd (cc)
short-more (suc zero) some none = absurd (cc)
short-more (suc (suc k)) some none = absurd (cc)

long-more : (var : ℕ) → IsSome (binding long var) → binding long var ≡ None → ⊥
long-more zero some none = absurd (cc)
long-more (suc zero) some none = absurd (cc)
long-more (suc (suc k)) some none = absurd (cc)

row_of_both : (row : Row ℕ) → Contains both row → (short ≡ row) ⊎ (long ≡ row)
row_of_both row at = elim (Contains-cons_cases short (long ∷ []) row at) [ inl is ↦ inl is | inr later ↦ inr (Contains-single long row later) ]

long_is_not_extended : ¬ IsExtended both long
long_is_not_extended extended =
    let more = extended.more in
    elim (row_of_both extended.other extended.listed) [
      | inl is ↦ short-more more.0 (subst (λ r. IsSome (binding r more.0)) (sym is) more.1) more.2
      | inr is ↦ long-more more.0 (subst (λ r. IsSome (binding r more.0)) (sym is) more.1) more.2
    ]

-- so the second alone is the best
best_of_both : AreBest both (long ∷ [])
best_of_both = record {
  exactly = λ row. (forth row, back row);
  once = λ i j d before low. absurd (omega arith);
} where
  forth : (row : Row ℕ) → Contains (long ∷ []) row → Contains both row × ¬ IsExtended both row
  forth row at = (
    Contains-tail short (long ∷ []) row at,
    λ extended. long_is_not_extended (subst (IsExtended both) (sym (Contains-single long row at)) extended),
  )

  back : (row : Row ℕ) → Contains both row × ¬ IsExtended both row → Contains (long ∷ []) row
  back row at = elim (row_of_both row at.0) [
    | inl is ↦ absurd (at.1 (subst (IsExtended both) is short_is_extended))
    | inr is ↦ subst (Contains (long ∷ [])) is (Contains-head long [])
  ]
