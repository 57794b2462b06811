-- Two passes over a node keep every arc-consistent family, whatever the pairs, if each is of neighbours in the node.
use Rattle.std.proofs.Common.{◌≡◌, ◌≢◌, ℕ, zero, suc, List, [], ◌∷◌, refl, sym, ◌∙◌, subst, arith}
use Rattle.join_graph.specs.declared.steps.Step.TheVariants.{Pattern, Variable}
use Rattle.join_graph.specs.Members.{Member}
use Rattle.pruning_laws.specs.Scene.{Scene, node_of, parent_in, Has, here, above, StandsIn}
use Rattle.pruning_laws.specs.TreePasses.{Holding, Occurs, Item, Triple, Value, agrees, holding, first_values, at_end, node_passes}
use Rattle.pruning_laws.proofs.PassLaws.{IsFresh, OfEach, OfEach-weaker, Within, IsSymmetric, Supports, Balanced, two_passes-within, two_passes-fresh, two_passes-keep}
use Rattle.pruning_laws.proofs.ArcConsistent.{LiesWithin, IsArcConsistent, gives_some, governs_from}

module _ {V X : Type 0} (scene : Scene V X) where
  -- the values that occur in a node
  abbrev pub values_in : Holding X → ℕ → ℕ → V → Type 0
  values_in family k v x = (p : ℕ) × StandsIn scene p k × Occurs scene family p v x

  -- a triple pattern of the node and a variable that it has
  abbrev pub AreNeighbours : ℕ → Member → Member → Type 0
  AreNeighbours k (Pattern p) (Variable v) = StandsIn scene p k × Has scene p v
  AreNeighbours k (Variable v) (Pattern p) = StandsIn scene p k × Has scene p v
  AreNeighbours k (Pattern p) (Pattern q) = ⊥
  AreNeighbours k (Variable v) (Variable w) = ⊥

  pub agrees-symmetric : IsSymmetric (agrees scene)
  agrees-symmetric (Pattern p) (Triple t) (Variable v) (Value x) a = a
  agrees-symmetric (Variable v) (Value x) (Pattern p) (Triple t) a = a
  agrees-symmetric (Pattern p) (Triple t) (Variable v) (Triple s) a = absurd a
  agrees-symmetric (Pattern p) (Value x) (Variable v) (Triple s) a = absurd a
  agrees-symmetric (Pattern p) (Value x) (Variable v) (Value y) a = absurd a
  agrees-symmetric (Pattern p) (Triple t) (Pattern q) (Triple s) a = absurd a
  agrees-symmetric (Pattern p) (Triple t) (Pattern q) (Value y) a = absurd a
  agrees-symmetric (Pattern p) (Value x) (Pattern q) (Triple s) a = absurd a
  agrees-symmetric (Pattern p) (Value x) (Pattern q) (Value y) a = absurd a
  agrees-symmetric (Variable v) (Value x) (Pattern p) (Value y) a = absurd a
  agrees-symmetric (Variable v) (Triple t) (Pattern p) (Triple s) a = absurd a
  agrees-symmetric (Variable v) (Triple t) (Pattern p) (Value y) a = absurd a
  agrees-symmetric (Variable v) (Triple t) (Variable w) (Triple s) a = absurd a
  agrees-symmetric (Variable v) (Triple t) (Variable w) (Value y) a = absurd a
  agrees-symmetric (Variable v) (Value x) (Variable w) (Triple s) a = absurd a
  agrees-symmetric (Variable v) (Value x) (Variable w) (Value y) a = absurd a

  -- ---- an arc-consistent family is kept

  module _ (family : Holding X) (consistent : IsArcConsistent scene family) (k : ℕ) where
    abbrev own : Member → Item V X → Type 0
    own = holding family (values_in family k)

    pattern_supports : (p v : ℕ) → StandsIn scene p k → Has scene p v → Supports (agrees scene) own (Pattern p) (Variable v)
    pattern_supports p v stands has (Triple t) h = absurd h
    pattern_supports p v stands has (Value x) h =
        let q = h.0 in
        let o = consistent.values p q v x (governs_from scene p q k k stands h.1.1 here) has h.2 in
        (Triple o.0, o.1, o.2)

    variable_supports : (p v : ℕ) → StandsIn scene p k → Has scene p v → Supports (agrees scene) own (Variable v) (Pattern p)
    variable_supports p v stands has (Value x) h = absurd h
    variable_supports p v stands has (Triple t) h =
        let x = gives_some scene p v has t in
        (Value x.0, (p, stands, (t, h, x.1)), x.1)

    pub neighbours_balance : (m n : Member) → AreNeighbours k m n → Balanced (agrees scene) own m n
    neighbours_balance (Pattern p) (Variable v) near = (pattern_supports p v near.0 near.1, variable_supports p v near.0 near.1)
    neighbours_balance (Variable v) (Pattern p) near = (variable_supports p v near.0 near.1, pattern_supports p v near.0 near.1)
    neighbours_balance (Pattern p) (Pattern q) near = absurd near
    neighbours_balance (Variable v) (Variable w) near = absurd near

    module _ (all : Holding X) (within : LiesWithin family all) where
      first_has : (j v : ℕ) (x : V) → j ≡ k → values_in family k v x → first_values scene all j v x
      first_has zero v x is h = tt
      first_has (suc j) v x is h = λ p stands has.
          let o = consistent.values p h.0 v x (governs_from scene p h.0 (parent_in scene (suc j)) (suc j) stands (h.1.1 ∙ sym is) (above (omega arith) here)) has h.2 in
          (o.0, within p o.0 o.1, o.2)

      start_keeps : Within own (holding all (first_values scene all k))
      start_keeps (Pattern p) (Triple t) h = within p t h
      start_keeps (Pattern p) (Value x) h = absurd h
      start_keeps (Variable v) (Triple t) h = absurd h
      start_keeps (Variable v) (Value x) h = first_has k v x refl h

      end_keeps : (pairs : List (Member × Member)) → OfEach (AreNeighbours k) pairs → Within own (at_end scene k pairs all)
      end_keeps pairs each = two_passes-keep (agrees scene) own (holding all (first_values scene all k)) pairs start_keeps
          (OfEach-weaker (AreNeighbours k) (Balanced (agrees scene) own) neighbours_balance pairs each)

      pub node_keeps : (pairs : List (Member × Member)) → OfEach (AreNeighbours k) pairs → LiesWithin family (node_passes scene k pairs all)
      node_keeps pairs each p t h = (
        end_keeps pairs each (Pattern p) (Triple t) h,
        λ is q governs. (let f = consistent.filled q p governs (t, h) in (f.0, end_keeps pairs each (Pattern q) (Triple f.0) f.1)),
      )

  -- ---- what a node's passes leave

  pub node_passes-within : (k : ℕ) (pairs : List (Member × Member)) (all : Holding X) → LiesWithin (node_passes scene k pairs all) all
  node_passes-within k pairs all p t h = two_passes-within (agrees scene) pairs (holding all (first_values scene all k)) (Pattern p) (Triple t) h.0

  -- the triple patterns of other nodes stand in no pair
  is_fresh : (k p : ℕ) → node_of scene p ≢ k → (pairs : List (Member × Member)) → OfEach (AreNeighbours k) pairs → IsFresh (Pattern p) pairs
  is_fresh k p other [] each = tt
  is_fresh k p other ((m, n) ∷ pairs) each = (apart m n each.0, (apart n m (turned m n each.0), is_fresh k p other pairs each.1)) where
    turned : (m n : Member) → AreNeighbours k m n → AreNeighbours k n m
    turned (Pattern p) (Variable v) near = near
    turned (Variable v) (Pattern p) near = near
    turned (Pattern p) (Pattern q) near = near
    turned (Variable v) (Variable w) near = near

    apart : (m n : Member) → AreNeighbours k m n → m ≢ Pattern p
    apart (Pattern q) (Variable v) near is = let same : q ≡ p = cc in other (subst (λ q. node_of scene q ≡ k) same near.0.1)
    apart (Variable v) n near is = cc
    apart (Pattern q) (Pattern r) near is = absurd near

  pub end_elsewhere : (k p : ℕ) (t : X) (pairs : List (Member × Member)) (all : Holding X) → node_of scene p ≢ k → OfEach (AreNeighbours k) pairs → all p t → at_end scene k pairs all (Pattern p) (Triple t)
  end_elsewhere k p t pairs all other each h = two_passes-fresh (agrees scene) pairs (holding all (first_values scene all k)) (Pattern p) (Triple t) (is_fresh k p other pairs each) h

  pub elsewhere : (k p : ℕ) (t : X) (pairs : List (Member × Member)) (all : Holding X) → node_of scene p ≢ k → OfEach (AreNeighbours k) pairs → all p t → node_passes scene k pairs all p t
  elsewhere k p t pairs all other each h = (end_elsewhere k p t pairs all other each h, λ is. absurd (other is))
