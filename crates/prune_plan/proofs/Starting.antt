-- How variables come to hold the values that occur in each of some triple patterns, one triple pattern after another.
use Rattle.std.proofs.Common.{◌≢◌, ◌↔◌, ℕ, inl, inr, ◌+◌, ◌<◌, sym, subst, arith}
use Rattle.std.proofs.lemmas.Bool.{cases_eq}

-- ---- the variables of one triple pattern, up to a number

module _ (first occurs : ℕ → ℕ → Type 0) (wanted : ℕ → Type 0) where
  -- those that are wanted have been reduced by it
  abbrev pub HasGathered : ℕ → (ℕ → ℕ → Type 0) → Type 0
  HasGathered n values = (v x : ℕ) → values v x ↔ (first v x × (v < n → wanted v → occurs v x))

  pub gathered_none : HasGathered 0 first
  gathered_none v x = (λ h. (h, λ low w. absurd (omega (arith, low))), λ h. h.0)

  pub gathered_more : (n : ℕ) (values next : ℕ → ℕ → Type 0) → wanted n → HasGathered n values → ((x : ℕ) → next n x ↔ (values n x × occurs n x)) →
      ((v x : ℕ) → v ≢ n → next v x ↔ values v x) → HasGathered (n + 1) next
  gathered_more n values next is_wanted before here others v x = elim (cases_eq v n) as (λ _. next v x ↔ (first v x × (v < n + 1 → wanted v → occurs v x))) [
    | inl is ↦ subst (λ v. next v x ↔ (first v x × (v < n + 1 → wanted v → occurs v x))) (sym is) (
      λ h. (let both = (here x).0 h in (((before n x).0 both.0).0, λ low w. both.1)),
      λ h. (here x).1 ((before n x).1 (h.0, λ low w. absurd (omega (arith, low))), h.1 (omega arith) is_wanted),
    )
    | inr apart ↦ (
      λ h. (let old = (before v x).0 ((others v x apart).0 h) in (old.0, λ low w. old.1 (omega (arith, low, apart)) w)),
      λ h. (others v x apart).1 ((before v x).1 (h.0, λ low w. h.1 (omega (arith, low)) w)),
    )
  ]

  pub gathered_skip : (n : ℕ) (values : ℕ → ℕ → Type 0) → (wanted n → ⊥) → HasGathered n values → HasGathered (n + 1) values
  gathered_skip n values none before v x = (
    λ h. (let old = (before v x).0 h in (
      old.0,
      λ low w. elim (cases_eq v n) as (λ _. occurs v x) [
        | inl is ↦ absurd (none (subst wanted is w))
        | inr apart ↦ old.1 (omega (arith, low, apart)) w
      ],
    )),
    λ h. (before v x).1 (h.0, λ low w. h.1 (omega (arith, low)) w),
  )

-- ---- some triple patterns, up to a place

module _ (first : ℕ → ℕ → Type 0) (occurs : ℕ → ℕ → ℕ → Type 0) (wanted : ℕ → Type 0) (edge : ℕ → ℕ → Type 0) where
  -- the wanted variables have been reduced by each that has them
  abbrev pub HasTaken : ℕ → (ℕ → ℕ → Type 0) → Type 0
  HasTaken n values = (v x : ℕ) → wanted v → values v x ↔ (first v x × ((i : ℕ) → i < n → edge i v → occurs i v x))

  pub taken_none : HasTaken 0 first
  taken_none v x w = (λ h. (h, λ i low e. absurd (omega (arith, low))), λ h. h.0)

  pub taken_more : (n : ℕ) (values next : ℕ → ℕ → Type 0) (own : ℕ → Type 0) → ((v : ℕ) → wanted v → own v ↔ edge n v) → HasTaken n values →
      ((v x : ℕ) → next v x ↔ (values v x × (own v → occurs n v x))) → HasTaken (n + 1) next
  taken_more n values next own same before here v x w = (
    λ h. (
        let both = (here v x).0 h in
        let old = (before v x w).0 both.0 in (
          old.0,
          λ i low e. elim (cases_eq i n) as (λ _. occurs i v x) [
            | inl is ↦ subst (λ i. occurs i v x) (sym is) (both.1 ((same v w).1 (subst (λ i. edge i v) is e)))
            | inr apart ↦ old.1 i (omega (arith, low, apart)) e
          ],
        )
        ),
    λ h. (here v x).1 ((before v x w).1 (h.0, λ i low e. h.1 i (omega (arith, low)) e), λ o. h.1 n (omega arith) ((same v w).0 o)),
  )
