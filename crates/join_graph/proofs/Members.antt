-- Members and neighbours: what can be told by looking.
use Rattle.std.proofs.Common.{◌≡◌, ◌≢◌, ℕ, zero, suc, ◌+◌, ◌<◌, ◌≤◌, ◌⊎◌, ◌↔◌, inl, inr, refl, ap, arith, List, [], ◌∷◌, length, get_or, Contains, Bool, true, false}
use Rattle.std.specs.Int.{bit_at}
use Rattle.std.proofs.lemmas.Bool.{cases_eq, cases_lt}
use Rattle.std.proofs.lemmas.List.{get_or_past}
use Rattle.join_graph.specs.declared.steps.Step.TheVariants.{Pattern, Variable}
use Rattle.join_graph.specs.Members.{Member, PatternHas, OccursIn, IsMember, IsNeighbour}
use Rattle.join_graph.specs.Removal.{IsLeft}
use Rattle.join_graph.proofs.Bits.{HasVariable-zero}

-- two members are the same or not
pub cases_Member : (m n : Member) → (m ≡ n) ⊎ (m ≢ n)
cases_Member (Pattern p) (Pattern q) = elim (cases_eq p q) [ inl e ↦ inl (ap Pattern e) | inr ne ↦ inr (λ e. ne (cc)) ]
cases_Member (Pattern p) (Variable v) = inr (λ e. cc)
cases_Member (Variable v) (Pattern p) = inr (λ e. cc)
cases_Member (Variable v) (Variable w) = elim (cases_eq v w) [ inl e ↦ inl (ap Variable e) | inr ne ↦ inr (λ e. ne (cc)) ]

-- a pattern with a variable stands in the list
pub PatternHas-place : (sets : List ℕ) (p v : ℕ) → PatternHas sets p v → p < length sets
PatternHas-place sets p v h =
    elim (cases_lt p (length sets)) [
      | inl lt ↦ lt
      | inr ge ↦ absurd (HasVariable-zero v (rw (get_or_past sets p 0 ge) at h))
    ]

-- what has a neighbour is a member
pub IsMember-from_neighbour : (sets : List ℕ) (m n : Member) → IsNeighbour sets m n → IsMember sets m
IsMember-from_neighbour sets (Pattern p) (Pattern q) h = absurd h
IsMember-from_neighbour sets (Pattern p) (Variable v) h = PatternHas-place sets p v h
IsMember-from_neighbour sets (Variable v) (Pattern p) h = (p, h)
IsMember-from_neighbour sets (Variable v) (Variable w) h = absurd h

-- neighbours are neighbours both ways
pub IsNeighbour-sym : (sets : List ℕ) (m n : Member) → IsNeighbour sets m n → IsNeighbour sets n m
IsNeighbour-sym sets (Pattern p) (Pattern q) h = h
IsNeighbour-sym sets (Pattern p) (Variable v) h = h
IsNeighbour-sym sets (Variable v) (Pattern p) h = h
IsNeighbour-sym sets (Variable v) (Variable w) h = h

-- a variable occurs or not
cases_OccursIn : (sets : List ℕ) (v : ℕ) → OccursIn sets v ⊎ (¬ OccursIn sets v)
cases_OccursIn [] v = inr (λ h. HasVariable-zero v h.1)
cases_OccursIn (set ∷ sets) v =
    elim (cases_eq (bit_at set v) 1) [
      | inl e ↦ inl (0, e)
      | inr ne ↦ elim (cases_OccursIn sets v) [ inl o ↦ inl (suc o.0, o.1) | inr none ↦ inr (λ h. at_place h.0 h.1 ne none) ]
    ]
  where
    at_place : (p : ℕ) → PatternHas (set ∷ sets) p v → (bit_at set v ≢ 1) → (¬ OccursIn sets v) → ⊥
    at_place zero h ne none = ne h
    at_place (suc p) h ne none = none (p, h)

-- a member was removed or not
cases_Contains : (steps : List Member) (m : Member) → Contains steps m ⊎ (¬ Contains steps m)
cases_Contains [] m = inr (λ h. omega (arith, h.1))
cases_Contains (step ∷ steps) m =
    elim (cases_Member step m) [
      | inl e ↦ inl (0, omega arith, e)
      | inr ne ↦ elim (cases_Contains steps m) [ inl c ↦ inl (suc c.0, omega (arith, c.1), c.2) | inr none ↦ inr (λ h. at_place h.0 h.1 h.2 ne none) ]
    ]
  where
    at_place : (k : ℕ) → k < length (step ∷ steps) → get_or (step ∷ steps) k m ≡ m → (step ≢ m) → (¬ Contains steps m) → ⊥
    at_place zero lt e ne none = ne e
    at_place (suc k) lt e ne none = none (k, omega arith, e)

-- a pattern or a variable is a member of the list or not
cases_IsMember : (sets : List ℕ) (m : Member) → IsMember sets m ⊎ (¬ IsMember sets m)
cases_IsMember sets (Pattern p) = elim (cases_lt p (length sets)) [ inl lt ↦ inl lt | inr ge ↦ inr (λ lt. omega arith) ]
cases_IsMember sets (Variable v) = cases_OccursIn sets v

-- a member that is not left was removed
pub Contains-from_not_left : (sets : List ℕ) (steps : List Member) (m : Member) → IsMember sets m → ¬ IsLeft sets steps m → Contains steps m
Contains-from_not_left sets steps m is_member gone =
    elim (cases_Contains steps m) [ inl c ↦ c | inr none ↦ absurd (gone (is_member, none)) ]

-- and is left or not
cases_IsLeft : (sets : List ℕ) (steps : List Member) (m : Member) → IsLeft sets steps m ⊎ (¬ IsLeft sets steps m)
cases_IsLeft sets steps m =
    elim (cases_IsMember sets m) [
      | inl is_member ↦ elim (cases_Contains steps m) [ inl c ↦ inr (λ h. h.1 c) | inr none ↦ inl (is_member, none) ]
      | inr none ↦ inr (λ h. none h.0)
    ]

-- whether the first of two cases holds
test_of : {P : Type 0} → P ⊎ (¬ P) → Bool
test_of (inl h) = true
test_of (inr h) = false

-- a test of what is left
pub is_left : List ℕ → List Member → Member → Bool
is_left sets steps m = test_of (cases_IsLeft sets steps m)

test_of-true : {P : Type 0} (cases : P ⊎ (¬ P)) → (test_of cases ≡ true) ↔ P
unfolding test_of
test_of-true (inl h) = (λ e. h, λ p. refl)
test_of-true (inr h) = (λ e. absurd (cc), λ p. absurd (h p))

pub is_left-true : (sets : List ℕ) (steps : List Member) (m : Member) → (is_left sets steps m ≡ true) ↔ IsLeft sets steps m
unfolding is_left
is_left-true sets steps m = test_of-true (cases_IsLeft sets steps m)

-- a variable occurs in one of the first patterns
abbrev pub OccursBelow : List ℕ → ℕ → ℕ → Type 0
OccursBelow sets i v = (p : ℕ) × (p < i) × PatternHas sets p v

-- one more pattern
pub OccursBelow-more : (sets : List ℕ) (i v : ℕ) → OccursBelow sets (i + 1) v ↔ OccursBelow sets i v ⊎ PatternHas sets i v
OccursBelow-more sets i v = (
  λ h. elim (cases_eq h.0 i) [ inl e ↦ inr (rw e at h.2) | inr ne ↦ inl (h.0, omega (arith, h.1), h.2) ],
  λ h. elim h [ inl l ↦ (l.0, omega (arith, l.1), l.2) | inr r ↦ (i, omega arith, r) ],
)

-- all patterns
pub OccursBelow-all : (sets : List ℕ) (i v : ℕ) → length sets ≤ i → OccursBelow sets i v ↔ OccursIn sets v
OccursBelow-all sets i v all =
    (λ h. (h.0, h.2), λ h. (h.0, omega (arith, PatternHas-place sets h.0 v h.1), h.1))
