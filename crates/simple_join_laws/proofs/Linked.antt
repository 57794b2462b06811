-- The triple patterns of a node in join order, behind those of the nodes before: from the second on, a variable that one
-- shares with what comes before it is a variable of the node's own earlier triple patterns, and it is one.
use Rattle.std.proofs.Common.{◌≡◌, ◌⊎◌, inl, inr, ℕ, zero, suc, ◌<◌, ◌≤◌, ◌++◌, List, [], ◌∷◌, length, get_or, map, Contains, subst, arith}
use Rattle.std.proofs.lemmas.List.{length-map}
use Rattle.std.proofs.lemmas.List.Elements.{Contains-get_or, Contains-append_left, Contains-append_right, Contains-append_cases}
use Rattle.alg_model.specs.declared.pattern.TriplePat.{TriplePat}
use Rattle.alg_model.specs.Pattern.{triple_vars}
use Rattle.alg_model.specs.VarSet.{triple_set}
use Rattle.join_graph.specs.Core.{IsForest}
use Rattle.join_graph.specs.Members.{PatternHas, OccursIn}
use Rattle.join_graph.proofs.Members.{OccursBelow, PatternHas-place}
use Rattle.multiway_join.specs.JoinOrder.{AreInOrder}
use Rattle.minimality_laws.proofs.SetVars.{set_has, has_at}
use Rattle.simple_join_laws.proofs.Cycles.{IsLinkedOrder, shares_one_before}

-- the variable is of the nodes before, or of the first triple patterns
abbrev pub IsBefore : List ℕ → List TriplePat → ℕ → ℕ → Type 0
IsBefore seen ps i v = Contains seen v ⊎ OccursBelow (map triple_set ps) i v

-- where a triple pattern that is left shares a variable with what is before, the next one does
order_at : (counts : TriplePat → ℕ) (seen : List ℕ) (ps : List TriplePat) (i j v : ℕ) → AreInOrder counts seen ps → i ≤ j → j < length ps → IsBefore seen ps i v → PatternHas (map triple_set ps) j v →
    (u : ℕ) × IsBefore seen ps i u × PatternHas (map triple_set ps) i u
order_at counts seen [] i j v order low there before has = absurd (omega (arith, there))
order_at counts seen (p ∷ ps) zero j v order low there before has = by before where
  by : IsBefore seen (p ∷ ps) zero v → (u : ℕ) × IsBefore seen (p ∷ ps) zero u × PatternHas (map triple_set (p ∷ ps)) zero u
  by (inr below) = absurd (let none = below.1 in omega (arith, none))
  by (inl at) =
      let other = get_or (p ∷ ps) j p in
      let shares = order.0.may.1 other (Contains-get_or (p ∷ ps) j p there) (v, at, (has_at (p ∷ ps) p j v has).1) in
      (shares.0, inl shares.1, (set_has p shares.0).1 shares.2)
order_at counts seen (p ∷ ps) (suc i) zero v order low there before has = absurd (omega (arith, low))
order_at counts seen (p ∷ ps) (suc i) (suc j) v order low there before has =
    let found = order_at counts (seen ++ triple_vars p) ps i j v order.1 (omega (arith, low)) (omega (arith, there)) (inner before) has in
    (found.0, outer found.0 found.1, found.2) where
      inner : IsBefore seen (p ∷ ps) (suc i) v → IsBefore (seen ++ triple_vars p) ps i v
      inner (inl at) = inl (Contains-append_left seen (triple_vars p) v at)
      inner (inr (zero, low, has)) = inl (Contains-append_right seen (triple_vars p) v ((set_has p v).0 has))
      inner (inr (suc q, low, has)) = inr (q, omega (arith, low), has)

      outer : (u : ℕ) → IsBefore (seen ++ triple_vars p) ps i u → IsBefore seen (p ∷ ps) (suc i) u
      outer u (inl at) = elim (Contains-append_cases seen (triple_vars p) u at) as (λ _. IsBefore seen (p ∷ ps) (suc i) u) [
        | inl old ↦ inl old
        | inr own ↦ inr (0, omega arith, (set_has p u).1 own)
      ]
      outer u (inr below) = inr (suc below.0, (let low = below.1 in omega (arith, low)), below.2)

module _ (counts : TriplePat → ℕ) (seen : List ℕ) (ps : List TriplePat) (order : AreInOrder counts seen ps)
    (one : (v w : ℕ) → OccursIn (map triple_set ps) v → Contains seen v → OccursIn (map triple_set ps) w → Contains seen w → v ≡ w) where
  abbrev sets : List ℕ
  sets = map triple_set ps

  in_list : (j v : ℕ) → PatternHas sets j v → j < length ps
  in_list j v has = (let low = PatternHas-place sets j v has in omega (arith, low, length-map ps triple_set))

  -- a variable that is shared is the node's own
  pub shared_is_own : (i v : ℕ) → 0 < i → PatternHas sets i v → IsBefore seen ps i v → OccursBelow sets i v
  shared_is_own i v positive has (inr below) = below
  shared_is_own i v positive has (inl at) =
      let first = order_at counts seen ps 0 i v order (omega arith) (in_list i v has) (inl at) has in
      by first.0 first.1 first.2 where
        by : (u : ℕ) → IsBefore seen ps 0 u → PatternHas sets 0 u → OccursBelow sets i v
        by u (inl there) own = (0, positive, subst (PatternHas sets 0) (one u v (0, own) there (i, has) at) own)
        by u (inr below) own = absurd (let none = below.1 in omega (arith, none))

  linked_order : IsLinkedOrder sets
  linked_order zero j v low below has = absurd (let none = below.1 in omega (arith, none))
  linked_order (suc i) j v low below has =
      let found = order_at counts seen ps (suc i) j v order low (in_list j v has) (inr below) has in
      (found.0, shared_is_own (suc i) found.0 (omega arith) found.2 found.1, found.2)

  -- and it is one
  pub shared_is_one : IsForest sets → (i v w : ℕ) → 0 < i → PatternHas sets i v → IsBefore seen ps i v → PatternHas sets i w → IsBefore seen ps i w → v ≡ w
  shared_is_one forest i v w positive has_v before_v has_w before_w =
      shares_one_before sets linked_order forest i v w (shared_is_own i v positive has_v before_v) has_v (shared_is_own i w positive has_w before_w) has_w
