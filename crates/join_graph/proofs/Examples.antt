-- Worked examples of the definitions. A set of variables is written as a number: 3 is {0, 1}, and 6 is {1, 2}.
use Rattle.std.proofs.Common.{◌≡◌, ℕ, zero, suc, ◌<◌, refl, sym, ap, ◌∙◌, inl, inr, arith, [], ◌∷◌, get_or, take, Contains, Bool, true, false}
use Rattle.std.proofs.lemmas.Bool.{false≢true}
use Rattle.std.proofs.lemmas.Nat.Bits.{bit_at-suc}
use Rattle.join_graph.specs.declared.steps.Step.TheVariants.{Pattern, Variable}
use Rattle.join_graph.specs.Sets.{HasTwo, HasSize, Meets}
use Rattle.join_graph.specs.Members.{Member, HasVariable, PatternHas, OccursIn, IsNeighbour}
use Rattle.join_graph.specs.Core.{neighbours_in, passing, core_of, IsForest}
use Rattle.join_graph.specs.Removal.{IsLeft, IsNext, IsRemovalOrder}
use Rattle.join_graph.specs.Chains.{IsJoined, here, next, IsConnected}
use Rattle.join_graph.specs.Reach.{spread_from}
use Rattle.join_graph.specs.Nodes.{node_of}
use Rattle.join_graph.proofs.Bits.{HasVariable-zero, HasVariable-and}
use Rattle.join_graph.proofs.Joins.{joined_to-closed, IsConnected-from_meets}

-- {1, 2} has 1, and has not 0
six_has_one : HasVariable 6 1
six_has_one = refl

six_lacks_zero : ¬ HasVariable 6 0
six_lacks_zero h = omega arith

-- {0} has 0 alone
HasVariable-one : (v : ℕ) → HasVariable 1 v → v ≡ 0
HasVariable-one zero h = refl
HasVariable-one (suc v) h = absurd (HasVariable-zero v (sym (bit_at-suc 1 v) ∙ h))

one_has_one : HasSize (HasVariable 1) 1
unfolding HasSize
one_has_one = (0, refl, λ v h. h.1 (HasVariable-one v h.0))

-- pattern 1 of {0, 1}, {1, 2} and variable 2 are neighbours
are_neighbours : IsNeighbour (3 ∷ 6 ∷ []) (Pattern 1) (Variable 2)
are_neighbours = refl

-- the core of {0, 1}, {0, 1} has both patterns and both variables, so the list is no forest
first_two : Member → Bool
first_two (Pattern zero) = true
first_two (Pattern (suc zero)) = true
first_two (Pattern (suc (suc p))) = false
first_two (Variable zero) = true
first_two (Variable (suc zero)) = true
first_two (Variable (suc (suc v))) = false

two_around : (m : Member) → passing first_two m → HasTwo (neighbours_in (3 ∷ 3 ∷ []) (passing first_two) m)
unfolding first_two
two_around (Pattern zero) h = record { first = Variable 0; second = Variable 1; first_in = (refl, refl); second_in = (refl, refl); apart = λ e. cc }
two_around (Pattern (suc zero)) h = record { first = Variable 0; second = Variable 1; first_in = (refl, refl); second_in = (refl, refl); apart = λ e. cc }
two_around (Pattern (suc (suc p))) h = absurd (false≢true h)
two_around (Variable zero) h = record { first = Pattern 0; second = Pattern 1; first_in = (refl, refl); second_in = (refl, refl); apart = λ e. cc }
two_around (Variable (suc zero)) h = record { first = Pattern 0; second = Pattern 1; first_in = (refl, refl); second_in = (refl, refl); apart = λ e. cc }
two_around (Variable (suc (suc v))) h = absurd (false≢true h)

two_shared_are_core : core_of (3 ∷ 3 ∷ []) (Pattern 0)
unfolding first_two core_of
two_shared_are_core = (first_two, two_around, refl)

two_shared_are_no_forest : ¬ IsForest (3 ∷ 3 ∷ [])
unfolding IsForest
two_shared_are_no_forest forest = forest (Pattern 0) two_shared_are_core

-- one pattern alone is a forest: each of its variables has one neighbour
around_variable : (set v : ℕ) (n : Member) → IsNeighbour (set ∷ []) (Variable v) n → n ≡ Pattern 0
around_variable set v (Pattern zero) near = refl
around_variable set v (Pattern (suc p)) near = absurd (HasVariable-zero v near)
around_variable set v (Variable w) near = absurd near

alone_is_forest : (set : ℕ) → IsForest (set ∷ [])
unfolding core_of IsForest
alone_is_forest set m core = at m core.2
  where
    at_variable : (v : ℕ) → ¬ passing core.0 (Variable v)
    at_variable v pass =
        let two = core.1 (Variable v) pass in
        two.apart (around_variable set v two.first two.first_in.0 ∙ sym (around_variable set v two.second two.second_in.0))

    around_pattern : (p : ℕ) (n : Member) → IsNeighbour (set ∷ []) (Pattern p) n → ¬ passing core.0 n
    around_pattern p (Pattern q) near pass = near
    around_pattern p (Variable v) near pass = at_variable v pass

    at : (m : Member) → ¬ passing core.0 m
    at (Pattern p) pass = let two = core.1 (Pattern p) pass in around_pattern p two.first two.first_in.0 two.first_in.1
    at (Variable v) pass = at_variable v pass

-- a chain joins {0, 1} and {1, 2}, and none joins {0} and {1}
are_joined : IsJoined (3 ∷ 6 ∷ []) (Pattern 0) (Pattern 1)
are_joined = next {n = Variable 1} refl (next {n = Pattern 1} refl here)

apart_is_closed : (p v : ℕ) → Meets (PatternHas (1 ∷ 2 ∷ []) p) (HasVariable 1) → PatternHas (1 ∷ 2 ∷ []) p v → HasVariable 1 v
apart_is_closed zero v meets has = has
apart_is_closed (suc zero) v meets has = absurd (HasVariable-zero meets.0 ((HasVariable-and 2 1 meets.0).1 (meets.1, meets.2)))
apart_is_closed (suc (suc p)) v meets has = absurd (HasVariable-zero v has)

are_not_joined : ¬ IsConnected (1 ∷ 2 ∷ [])
are_not_joined connected =
    let meets = (IsConnected-from_meets (1 ∷ 2 ∷ []) 0 0 refl).1 connected 1 1 refl in
    let closed : (v : ℕ) → spread_from (1 ∷ 2 ∷ []) (HasVariable 1) v → HasVariable 1 v =
    λ v h. elim h [ inl l ↦ l | inr r ↦ apart_is_closed r.0 v r.1 r.2 ] in
    let inside = joined_to-closed (1 ∷ 2 ∷ []) (HasVariable 1) meets.0 closed meets.2 in
    HasVariable-zero meets.0 ((HasVariable-and 1 2 meets.0).1 (inside, meets.1))

-- of {0} the pattern goes first, and then its variable
around_pattern : (n : Member) → IsNeighbour (1 ∷ []) (Pattern 0) n → n ≡ Variable 0
around_pattern (Pattern q) near = absurd near
around_pattern (Variable v) near = ap Variable (HasVariable-one v near)

OccursIn-one : (v : ℕ) → OccursIn (1 ∷ []) v → v ≡ 0
OccursIn-one v (zero, h) = HasVariable-one v h
OccursIn-one v (suc p, h) = absurd (HasVariable-zero v h)

lacks_variable : ¬ Contains (Pattern 0 ∷ []) (Variable 0)
lacks_variable (zero, lt, e) = cc
lacks_variable (suc k, lt, e) = omega arith

next_of_one : (i : ℕ) → i < 2 → (d : Member) → IsNext (1 ∷ []) (IsLeft (1 ∷ []) (take i (Pattern 0 ∷ Variable 0 ∷ []))) (get_or (Pattern 0 ∷ Variable 0 ∷ []) i d)
next_of_one zero lt d = (
  ((omega arith, λ c. omega (arith, c.1)), λ m n in_m in_n. around_pattern m in_m.0 ∙ sym (around_pattern n in_n.0)),
  λ p lt leaf. omega arith,
)
next_of_one (suc zero) lt d = (
  (((0, refl), lacks_variable), λ m n in_m in_n. around_variable 1 0 m in_m.0 ∙ sym (around_variable 1 0 n in_n.0)),
  λ p leaf. leaf.0.1 (0, omega arith, ap Pattern (omega (arith, leaf.0.0))),
  λ v lt leaf. omega arith,
)
next_of_one (suc (suc i)) lt d = absurd (omega arith)

none_left : (m : Member) → ¬ IsLeft (1 ∷ []) (Pattern 0 ∷ Variable 0 ∷ []) m
none_left (Pattern p) h = h.1 (0, omega arith, ap Pattern (omega (arith, h.0)))
none_left (Variable v) h = h.1 (1, omega arith, ap Variable (sym (OccursIn-one v h.0)))

order_of_one : IsRemovalOrder (1 ∷ []) (Pattern 0 ∷ Variable 0 ∷ [])
order_of_one = record { next = next_of_one; ended = λ m h. absurd (none_left m h) }

-- with ends 2 and 3, node 1 has the third pattern alone
node_one : node_of (2 ∷ 3 ∷ []) (1 ∷ 2 ∷ 4 ∷ []) 1 ≡ 4 ∷ []
node_one = refl
