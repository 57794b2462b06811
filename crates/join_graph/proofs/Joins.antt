-- Chains of neighbours: turned, put together, and followed within a set that is closed.
use Rattle.std.proofs.Common.{◌≡◌, ℕ, ◌+◌, ◌<◌, ◌≤◌, ◌⊎◌, ◌↔◌, inl, inr, arith, List, length, slice_index, bit_or}
use Rattle.std.proofs.lemmas.Bool.{cases_eq}
use Rattle.join_graph.specs.declared.steps.Step.TheVariants.{Pattern, Variable}
use Rattle.join_graph.specs.Sets.{Meets}
use Rattle.join_graph.specs.Members.{Member, HasVariable, PatternHas, IsNeighbour}
use Rattle.join_graph.specs.Chains.{IsJoined, here, next, IsConnected}
use Rattle.join_graph.specs.Reach.{EachMeets, joined_to, spread_from}
use Rattle.join_graph.proofs.Bits.{HasVariable-zero, HasVariable-or}
use Rattle.join_graph.proofs.Members.{IsNeighbour-sym, PatternHas-place}

-- two chains, one after the other
IsJoined-trans : {sets : List ℕ} {m n end : Member} → IsJoined sets m n → IsJoined sets n end → IsJoined sets m end
IsJoined-trans here chain = chain
IsJoined-trans (next near rest) chain = next near (IsJoined-trans rest chain)

-- a chain backwards
IsJoined-sym : {sets : List ℕ} {m n : Member} → IsJoined sets m n → IsJoined sets n m
IsJoined-sym here = here
IsJoined-sym {sets} (next {m} {n} near rest) = IsJoined-trans (IsJoined-sym rest) (next (IsNeighbour-sym sets m n near) here)

-- one more pattern
pub joined_to-more : (sets : List ℕ) (set : ℕ → Type 0) (p v w : ℕ) → joined_to sets set v → PatternHas sets p v → PatternHas sets p w → joined_to sets set w
joined_to-more sets set p v w joined has has' =
    (joined.0, joined.1, IsJoined-trans joined.2 (next {n = Pattern p} has (next {n = Variable w} has' here)))

-- a set with all variables of the patterns that have one of it
abbrev IsClosed : List ℕ → (ℕ → Type 0) → Type 0
IsClosed sets set = (v : ℕ) → spread_from sets set v → set v

-- a variable of the set, or a pattern whose variables are all of the set
abbrev IsInside : List ℕ → (ℕ → Type 0) → Member → Type 0
IsInside sets set (Pattern p) = (v : ℕ) → PatternHas sets p v → set v
IsInside sets set (Variable v) = set v

-- a neighbour of what is inside is inside
IsInside-neighbour : (sets : List ℕ) (set : ℕ → Type 0) (m n : Member) → IsClosed sets set → IsNeighbour sets m n → IsInside sets set m → IsInside sets set n
IsInside-neighbour sets set (Pattern p) (Pattern q) closed near inside = absurd near
IsInside-neighbour sets set (Pattern p) (Variable v) closed near inside = inside v near
IsInside-neighbour sets set (Variable v) (Pattern p) closed near inside = λ w has. closed w (inr (p, (v, near, inside), has))
IsInside-neighbour sets set (Variable v) (Variable w) closed near inside = absurd near

-- a chain from inside such a set stays inside
IsInside-joined : {sets : List ℕ} {m n : Member} → IsJoined sets m n → (set : ℕ → Type 0) → IsClosed sets set → IsInside sets set m → IsInside sets set n
IsInside-joined here set closed inside = inside
IsInside-joined {sets} (next {m} {n} near rest) set closed inside =
    IsInside-joined rest set closed (IsInside-neighbour sets set m n closed near inside)

-- a set that is closed has all variables that are joined to one of it
pub joined_to-closed : (sets : List ℕ) (set : ℕ → Type 0) (v : ℕ) → IsClosed sets set → joined_to sets set v → set v
joined_to-closed sets set v closed joined = IsInside-joined joined.2 set closed joined.1

-- a chain from a pattern to a variable begins with a variable of the pattern
joined_to-pattern : {sets : List ℕ} {p v : ℕ} → IsJoined sets (Pattern p) (Variable v) → joined_to sets (PatternHas sets p) v
joined_to-pattern {sets} {p} {v} (next {n} near rest) = from n near rest
  where
    from : (n : Member) → IsNeighbour sets (Pattern p) n → IsJoined sets n (Variable v) → joined_to sets (PatternHas sets p) v
    from (Pattern q) near rest = absurd near
    from (Variable w) near rest = (w, near, rest)

-- a list of patterns without variables is connected
pub IsConnected-empty : (sets : List ℕ) → ((p : ℕ) → p < length sets → slice_index sets p ≡ 0) → IsConnected sets
unfolding IsConnected
IsConnected-empty sets none =
    λ p q v w has has'. absurd (HasVariable-zero v (rw (none p (PatternHas-place sets p v has)) at has))

-- a list is connected where each pattern has a variable that is joined to one of some pattern's
pub IsConnected-from_meets : (sets : List ℕ) (p v : ℕ) → PatternHas sets p v → EachMeets sets (joined_to sets (PatternHas sets p)) ↔ IsConnected sets
unfolding IsConnected
IsConnected-from_meets sets p v has = (
  λ each q r w x has' has''. IsJoined-trans (IsJoined-sym (to each q w has')) (to each r x has''),
  λ connected q w has'.
      let chain = IsJoined-trans (connected p q v w has has') (next {n = Variable w} has' here) in
      (w, has', joined_to-pattern chain),
)
  where
    to : EachMeets sets (joined_to sets (PatternHas sets p)) → (q w : ℕ) → PatternHas sets q w → IsJoined sets (Pattern p) (Pattern q)
    to each q w has' =
        let meets = each q w has' in
        let joined = meets.2 in
        IsJoined-trans (next {n = Variable joined.0} joined.1 joined.2) (next {n = Pattern q} meets.1 here)

-- the variables of a set, and those of the first patterns that have one of them
abbrev pub SpreadBelow : List ℕ → ℕ → (ℕ → Type 0) → ℕ → Type 0
SpreadBelow sets i set v = set v ⊎ ((p : ℕ) × (p < i) × (Meets (PatternHas sets p) set × PatternHas sets p v))

-- one more pattern
pub SpreadBelow-more : (sets : List ℕ) (i : ℕ) (set : ℕ → Type 0) (v : ℕ) → SpreadBelow sets (i + 1) set v ↔ SpreadBelow sets i set v ⊎ (Meets (PatternHas sets i) set × PatternHas sets i v)
SpreadBelow-more sets i set v = (
  λ h. elim h [
    | inl l ↦ inl (inl l)
    | inr r ↦ elim (cases_eq r.0 i) [ inl e ↦ inr (rw e at r.2) | inr ne ↦ inl (inr (r.0, omega (arith, r.1), r.2)) ]
  ],
  λ h. elim h [
    | inl l ↦ elim l [ inl l' ↦ inl l' | inr r ↦ inr (r.0, omega (arith, r.1), r.2) ]
    | inr r ↦ inr (i, omega arith, r)
  ],
)

-- all patterns
pub SpreadBelow-all : (sets : List ℕ) (i : ℕ) (set : ℕ → Type 0) (v : ℕ) → length sets ≤ i → SpreadBelow sets i set v ↔ spread_from sets set v
SpreadBelow-all sets i set v all = (
  λ h. elim h [ inl l ↦ inl l | inr r ↦ inr (r.0, r.2.0, r.2.1) ],
  λ h. elim h [ inl l ↦ inl l | inr r ↦ inr (r.0, omega (arith, PatternHas-place sets r.0 v r.2), (r.1, r.2)) ],
)

-- a pattern that meets the set is taken in
pub SpreadBelow-taken : (sets : List ℕ) (i wider : ℕ) (set : ℕ → Type 0) → Meets (PatternHas sets i) set → ((v : ℕ) → HasVariable wider v ↔ SpreadBelow sets i set v) → (v : ℕ) → HasVariable (bit_or wider (slice_index sets i)) v ↔ SpreadBelow sets (i + 1) set v
SpreadBelow-taken sets i wider set meets before v =
    let either = HasVariable-or wider (slice_index sets i) v in
    let more = SpreadBelow-more sets i set v in (
      λ h. more.1 (elim (either.0 h) [ inl l ↦ inl ((before v).0 l) | inr r ↦ inr (meets, r) ]),
      λ h. either.1 (elim (more.0 h) [ inl l ↦ inl ((before v).1 l) | inr r ↦ inr r.1 ]),
    )

-- and one that does not is left
pub SpreadBelow-passed : (sets : List ℕ) (i wider : ℕ) (set : ℕ → Type 0) → ¬ Meets (PatternHas sets i) set → ((v : ℕ) → HasVariable wider v ↔ SpreadBelow sets i set v) → (v : ℕ) → HasVariable wider v ↔ SpreadBelow sets (i + 1) set v
SpreadBelow-passed sets i wider set apart before v =
    let more = SpreadBelow-more sets i set v in (
      λ h. more.1 (inl ((before v).0 h)),
      λ h. elim (more.0 h) [ inl l ↦ (before v).1 l | inr r ↦ absurd (apart r.0) ],
    )

-- sets with the same members are met alike
pub EachMeets-same : (sets : List ℕ) (set other : ℕ → Type 0) → ((v : ℕ) → set v ↔ other v) → EachMeets sets set ↔ EachMeets sets other
EachMeets-same sets set other same = (
  λ each p v has. let m = each p v has in (m.0, m.1, (same m.0).0 m.2),
  λ each p v has. let m = each p v has in (m.0, m.1, (same m.0).1 m.2),
)
