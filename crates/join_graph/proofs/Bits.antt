-- Numbers as sets of variables: how many variables a number has, and what the bit operations do.
use Rattle.std.proofs.Common.{◌≡◌, ◌≢◌, ℕ, zero, suc, ◌+◌, ◌*◌, ◌/◌, ◌%◌, ◌^◌, ◌<◌, ◌≤◌, ◌⊎◌, ◌↔◌, inl, inr, refl, sym, ◌∙◌, arith, bit_and, bit_or, w64}
use Rattle.std.specs.Int.{bit_at, bit_not, trailing_zeros}
use Rattle.std.specs.Int.Count.{ones, ones_step}
use Rattle.std.proofs.lemmas.Nat.Bits.{bit_at_lowest, bit_at-suc, bit_at-zero, bit_at_and, bit_at_or, bit_at-lt, bit_at_above, bit_at-trailing_zeros, bit_at_clear_same, bit_at_clear_other}
use Rattle.std.proofs.lemmas.Nat.{and_le_l}
use Rattle.std.proofs.lemmas.Bool.{cases_eq, cases_lt}
use Rattle.join_graph.specs.Sets.{HasAtMostOne, HasSize, Meets, without}
use Rattle.join_graph.specs.Members.{HasVariable}
use Rattle.join_graph.proofs.Sizes.{HasSize-same, HasSize-none, HasSize-suc, HasSize-both, HasSize-image, HasTwo-from_size, HasAtMostOne-from_size}

-- the empty set has no variable
pub HasVariable-zero : (v : ℕ) → ¬ HasVariable 0 v
HasVariable-zero v h = omega (arith, bit_at-zero v)

-- a variable of a set is one of its lowest bit or one of the rest
HasVariable-cases : (n v : ℕ) → HasVariable n v → ((v ≡ 0) × (n % 2 ≡ 1)) ⊎ ((u : ℕ) × HasVariable (n / 2) u × (suc u ≡ v))
HasVariable-cases n zero h = inl (refl, sym (bit_at_lowest n) ∙ h)
HasVariable-cases n (suc v) h = inr (v, sym (bit_at-suc n v) ∙ h, refl)

-- the lowest bit, as a set
HasSize-lowest : (b : ℕ) → b < 2 → HasSize (λ (v : ℕ). (v ≡ 0) × (b ≡ 1)) b
HasSize-lowest zero h = HasSize-none (λ (v : ℕ). (v ≡ 0) × (zero ≡ 1)) (λ v w. omega arith)
HasSize-lowest (suc zero) h =
    HasSize-suc (λ (v : ℕ). (v ≡ 0) × (suc zero ≡ 1)) 0 0 (refl, refl) (HasSize-none _ (λ v w. w.1 w.0.0))
HasSize-lowest (suc (suc b)) h = absurd (omega arith)

-- the bits of a number, from the lowest on
HasSize-ones_to : (d n : ℕ) → n ≤ d → HasSize (HasVariable n) (ones n)
unfolding ones
HasSize-ones_to zero n h =
    let none : n ≡ 0 = omega arith in
    rw none (HasSize-none (HasVariable 0) HasVariable-zero)
HasSize-ones_to (suc d) n h =
    rw (ones_step n)
    (HasSize-same (λ v. ((v ≡ 0) × (n % 2 ≡ 1)) ⊎ ((u : ℕ) × HasVariable (n / 2) u × (suc u ≡ v))) (HasVariable n) (n % 2 + ones (n / 2))
    (λ v w. elim w [ inl l ↦ rw l.0 (bit_at_lowest n ∙ l.1) | inr r ↦ rw (← r.2) (bit_at-suc n r.0 ∙ r.1) ])
    (HasVariable-cases n)
    (HasSize-both (λ v. (v ≡ 0) × (n % 2 ≡ 1)) (λ v. (u : ℕ) × HasVariable (n / 2) u × (suc u ≡ v)) (n % 2) (ones (n / 2))
    (λ v l r. omega arith)
    (HasSize-lowest (n % 2) (omega arith))
    (HasSize-image suc (HasVariable (n / 2)) (ones (n / 2)) (λ x y e. omega arith) (HasSize-ones_to d (n / 2) (omega arith)))))

-- as many variables as bits that are set
pub HasSize-ones : (n : ℕ) → HasSize (HasVariable n) (ones n)
HasSize-ones n = HasSize-ones_to n n (omega arith)

-- the variables of both sets
pub HasVariable-and : (a b v : ℕ) → HasVariable (bit_and a b) v ↔ HasVariable a v × HasVariable b v
HasVariable-and a b v = (
  λ h. (omega (arith, bit_at_and a b v, bit_at-lt a v, bit_at-lt b v), omega (arith, bit_at_and a b v, bit_at-lt a v, bit_at-lt b v)),
  λ h. omega (arith, bit_at_and a b v, h.0, h.1),
)

-- the variables of either set
pub HasVariable-or : (a b v : ℕ) → HasVariable (bit_or a b) v ↔ HasVariable a v ⊎ HasVariable b v
HasVariable-or a b v = (
  λ h. elim (cases_eq (bit_at a v) 1) [
    | inl e ↦ inl e
    | inr ne ↦ inr (omega (arith, bit_at_or a b v, bit_at-lt a v, bit_at-lt b v))
  ],
  λ h. elim h [ inl l ↦ omega (arith, bit_at_or a b v, bit_at-lt b v) | inr r ↦ omega (arith, bit_at_or a b v, bit_at-lt a v) ],
)

-- a set that is not empty has a variable
pub HasVariable-some : (n : ℕ) → n < 2 ^ 64 → n ≢ 0 → (v : ℕ) × HasVariable n v
HasVariable-some n fits ne =
    let at = bit_at-trailing_zeros w64 n (omega arith) fits in
    (trailing_zeros w64 n, at.1)

-- a set of 64 bits has no variable from 64 on
pub HasVariable-below : (n v : ℕ) → n < 2 ^ 64 → HasVariable n v → v < 64
HasVariable-below n v fits h =
    elim (cases_lt v 64) [ inl lt ↦ lt | inr ge ↦ absurd (omega (arith, bit_at_above n 64 v fits ge)) ]

-- the set without one of its variables
pub HasVariable-without : (n k v : ℕ) → n < 2 ^ 64 → k < 64 → HasVariable (bit_and n (bit_not w64 (1 * 2 ^ k % 2 ^ 64))) v ↔ without (HasVariable n) k v
HasVariable-without n k v fits in_range = (
  λ h. (
    omega (arith, bit_at_and n (bit_not w64 (1 * 2 ^ k % 2 ^ 64)) v, bit_at-lt n v, bit_at-lt (bit_not w64 (1 * 2 ^ k % 2 ^ 64)) v),
    λ e. omega (arith, rw e at h, bit_at_clear_same w64 n k in_range),
  ),
  λ h. bit_at_clear_other w64 n k in_range v (HasVariable-below n v fits h.0) h.1 ∙ h.0,
)

-- two sets meet where `&` is not 0
pub Meets-and : (a b : ℕ) → a < 2 ^ 64 → (bit_and a b ≢ 0) ↔ Meets (HasVariable a) (HasVariable b)
Meets-and a b fits = (
  λ some.
      let at = HasVariable-some (bit_and a b) (omega (arith, and_le_l a b)) some in
      let both = (HasVariable-and a b at.0).0 at.1 in
      (at.0, both.0, both.1),
  λ m e. HasVariable-zero m.0 (rw e at ((HasVariable-and a b m.0).1 (m.1, m.2))),
)

-- as many variables in both sets as bits that are set in both
pub HasSize-and : (a b : ℕ) → HasSize (λ v. HasVariable a v × HasVariable b v) (ones (bit_and a b))
HasSize-and a b =
    HasSize-same (HasVariable (bit_and a b)) (λ v. HasVariable a v × HasVariable b v) (ones (bit_and a b))
    (λ v. (HasVariable-and a b v).0)
    (λ v. (HasVariable-and a b v).1)
    (HasSize-ones (bit_and a b))

-- at most one variable in both sets where at most one bit is set in both
pub HasAtMostOne-and : (a b : ℕ) → (ones (bit_and a b) ≤ 1) ↔ HasAtMostOne (λ v. HasVariable a v × HasVariable b v)
HasAtMostOne-and a b = (
  HasAtMostOne-from_size cases_eq (λ v. HasVariable a v × HasVariable b v) (ones (bit_and a b)) (HasSize-and a b),
  λ one. elim (cases_lt (ones (bit_and a b)) 2) [
    | inl lt ↦ omega arith
    | inr ge ↦
        let two = HasTwo-from_size (λ v. HasVariable a v × HasVariable b v) (ones (bit_and a b)) (HasSize-and a b) ge in
        absurd (two.apart (one two.first two.second two.first_in two.second_in))
  ],
)
