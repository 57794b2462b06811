-- How many members a list has, and how many neighbours a member has in a set.
use Rattle.std.proofs.Common.{◌≡◌, ℕ, ◌+◌, ◌<◌, ◌⊎◌, ◌↔◌, inl, inr, refl, subst, List, length}
use Rattle.join_graph.specs.declared.steps.Step.TheVariants.{Pattern, Variable}
use Rattle.join_graph.specs.Sets.{HasSize}
use Rattle.join_graph.specs.Members.{Member, HasVariable, PatternHas, OccursIn, IsMember}
use Rattle.join_graph.specs.Core.{neighbours_in}
use Rattle.join_graph.proofs.Sizes.{HasSize-same, HasSize-both, HasSize-image, HasSize-below}
use Rattle.join_graph.proofs.Members.{PatternHas-place}

-- patterns and variables are told apart by their numbers
Pattern-apart : (p q : ℕ) → Pattern p ≡ Pattern q → p ≡ q
Pattern-apart p q e = cc

Variable-apart : (v w : ℕ) → Variable v ≡ Variable w → v ≡ w
Variable-apart v w e = cc

-- the patterns of a set, as members
abbrev patterns_of : (ℕ → Type 0) → Member → Type 0
patterns_of set m = (p : ℕ) × set p × (Pattern p ≡ m)

-- the variables of a set, as members
abbrev variables_of : (ℕ → Type 0) → Member → Type 0
variables_of set m = (v : ℕ) × set v × (Variable v ≡ m)

-- a pattern of a set that has a variable
abbrev pub HasInSet : List ℕ → (Member → Type 0) → ℕ → ℕ → Type 0
HasInSet sets set v p = set (Pattern p) × PatternHas sets p v

-- the neighbours of a variable in a set are the patterns of the set that have it
pub HasSize-around_variable : (sets : List ℕ) (set : Member → Type 0) (v n : ℕ) → HasSize (λ p. (p < length sets) × HasInSet sets set v p) n → HasSize (neighbours_in sets set (Variable v)) n
HasSize-around_variable sets set v n size =
    HasSize-same (patterns_of (λ p. (p < length sets) × HasInSet sets set v p)) (neighbours_in sets set (Variable v)) n
    (λ m h. subst (neighbours_in sets set (Variable v)) h.2 (h.1.1.1, h.1.1.0))
    at_pattern
    (HasSize-image Pattern (λ p. (p < length sets) × HasInSet sets set v p) n Pattern-apart size)
  where
    at_pattern : (m : Member) → neighbours_in sets set (Variable v) m → patterns_of (λ p. (p < length sets) × HasInSet sets set v p) m
    at_pattern (Pattern p) h = (p, (PatternHas-place sets p v h.0, (h.1, h.0)), refl)
    at_pattern (Variable w) h = absurd h.0

-- the neighbours of a pattern in a set are the variables of the set that it has
pub HasSize-around_pattern : (sets : List ℕ) (set : Member → Type 0) (p n : ℕ) → HasSize (λ v. PatternHas sets p v × set (Variable v)) n → HasSize (neighbours_in sets set (Pattern p)) n
HasSize-around_pattern sets set p n size =
    HasSize-same (variables_of (λ v. PatternHas sets p v × set (Variable v))) (neighbours_in sets set (Pattern p)) n
    (λ m h. subst (neighbours_in sets set (Pattern p)) h.2 h.1)
    at_variable
    (HasSize-image Variable (λ v. PatternHas sets p v × set (Variable v)) n Variable-apart size)
  where
    at_variable : (m : Member) → neighbours_in sets set (Pattern p) m → variables_of (λ v. PatternHas sets p v × set (Variable v)) m
    at_variable (Pattern q) h = absurd h.0
    at_variable (Variable v) h = (v, h, refl)

-- the members are the patterns and the variables that occur
pub HasSize-members : (sets : List ℕ) (set n : ℕ) → ((v : ℕ) → HasVariable set v ↔ OccursIn sets v) → HasSize (HasVariable set) n → HasSize (IsMember sets) (length sets + n)
HasSize-members sets set n occurs size =
    HasSize-same (λ m. patterns_of (λ p. p < length sets) m ⊎ variables_of (HasVariable set) m) (IsMember sets) (length sets + n)
    (λ m h. elim h [
      | inl l ↦ subst (IsMember sets) l.2 l.1
      | inr r ↦ subst (IsMember sets) r.2 ((occurs r.0).0 r.1)
    ])
    at_member
    (HasSize-both (patterns_of (λ p. p < length sets)) (variables_of (HasVariable set)) (length sets) n
    (λ m l r. let e : Pattern l.0 ≡ Variable r.0 = cc (l.2, r.2) in cc)
    (HasSize-image Pattern (λ p. p < length sets) (length sets) Pattern-apart (HasSize-below (length sets)))
    (HasSize-image Variable (HasVariable set) n Variable-apart size))
  where
    at_member : (m : Member) → IsMember sets m → patterns_of (λ p. p < length sets) m ⊎ variables_of (HasVariable set) m
    at_member (Pattern p) h = inl (p, h, refl)
    at_member (Variable v) h = inr (v, (occurs v).1 h, refl)
