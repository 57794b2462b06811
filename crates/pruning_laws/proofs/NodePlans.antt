-- The pairs that passes over the nodes of a tree may take, as pairs of a scene that shows the tree.
use Rattle.std.proofs.Common.{◌⊎◌, inl, inr, ℕ, ◌<◌, List, [], ◌∷◌, Contains, sym, subst}
use Rattle.alg_model.specs.Eval.{Interpretation}
use Rattle.alg_model.specs.Pattern.{triple_vars}
use Rattle.bm_term.proofs.Elements.{Contains-head, Contains-tail}
use Rattle.join_graph.specs.declared.steps.Step.TheVariants.{Pattern, Variable}
use Rattle.join_graph.specs.Members.{Member}
use Rattle.pattern_tree.specs.Tree.{TreeNode}
use Rattle.pruning_laws.specs.Plans.{IsEdge, IsStripped, pairs_by, IsEdgePair, AreEdges, IsPlanOf}
use Rattle.pruning_laws.specs.Scene.{Scene, Has, StandsIn}
use Rattle.pruning_laws.specs.Shown.{entry_of}
use Rattle.pruning_laws.proofs.Keeping.{AreNeighbours}
use Rattle.pruning_laws.proofs.Pairing.{enough_from_removal}
use Rattle.pruning_laws.proofs.PassLaws.{OfEach}
use Rattle.pruning_laws.proofs.Settling.{IsEnough, IsForward, IsCover}
use Rattle.pruning_laws.proofs.Shows.{Shows}
use Rattle.pruning_laws.proofs.TreeRounds.{IsPlan}

-- of each pair, by the list
each_listed : (P : Member → Member → Type 0) (pairs : List (Member × Member)) → ((m n : Member) → Contains pairs (m, n) → P m n) → OfEach P pairs
each_listed P [] has = tt
each_listed P ((m, n) ∷ pairs) has = (has m n (Contains-head (m, n) pairs), each_listed P pairs (λ a b at. has a b (Contains-tail (m, n) pairs (a, b) at)))

module _ {V X Y : Type 0} (interpretation : Interpretation V X) (tree : List TreeNode) (scene : Scene V Y) (triple : ℕ → Y → X) (shows : Shows interpretation tree scene triple) where
  -- an edge of the node
  pub from_edge : (k p v : ℕ) → IsEdge tree k p v → StandsIn scene p k × Has scene p v
  from_edge k p v edge =
      let found = shows.found k edge.pattern edge.stands in
      let has : Has scene (entry_of edge.pattern) v = (shows.has (entry_of edge.pattern) v found.0).1 (subst (λ r. Contains (triple_vars r) v) (sym (shows.at_entry k edge.pattern edge.stands)) edge.has) in
      (subst (λ p. StandsIn scene p k) edge.entry found, subst (λ p. Has scene p v) edge.entry has)

  pub to_edge : (k p v : ℕ) → StandsIn scene p k → Has scene p v → IsEdge tree k p v
  to_edge k p v stands has = record {
    pattern = shows.pattern_at p;
    stands = shows.stands p k stands;
    entry = shows.entry_at p k stands;
    has = (shows.has p v stands.0).0 has;
  }

  pub stripped_is_enough : (k : ℕ) (sets : List ℕ) (steps : List Member) → IsStripped tree k sets steps → IsEnough scene k (pairs_by sets steps)
  stripped_is_enough k sets steps stripped = enough_from_removal scene k sets (record {
    some = λ p v has. from_edge k p v ((stripped.same p v).0 has);
    all = λ p v stands has matters. (stripped.same p v).1 (to_edge k p v stands has);
  }) steps stripped.removal stripped.all

  edges_are_cover : (k : ℕ) (pairs : List (Member × Member)) → AreEdges tree k pairs → IsCover scene k pairs
  edges_are_cover k pairs are = record {
    each = each_listed (AreNeighbours scene k) pairs (λ m n at. near m n (are.each m n at));
    forward = each_listed (IsForward scene) pairs (λ m n at. ahead m n (are.each m n at));
    all = λ p v stands has matters. are.all p v (to_edge k p v stands has);
  } where
    near : (m n : Member) → IsEdgePair tree k m n → AreNeighbours scene k m n
    near (Pattern p) (Variable v) edge = from_edge k p v edge
    near (Pattern p) (Pattern q) edge = absurd edge
    near (Variable v) n edge = absurd edge

    ahead : (m n : Member) → IsEdgePair tree k m n → IsForward scene m n
    ahead (Pattern p) (Variable v) edge = tt
    ahead (Pattern p) (Pattern q) edge = absurd edge
    ahead (Variable v) n edge = absurd edge

  pub plan_shown : (pairs : ℕ → List (Member × Member)) → IsPlanOf tree pairs → IsPlan scene pairs
  plan_shown pairs plan k low = elim (plan k (subst (λ n. k < n) shows.nodes low)) as (λ _. IsEnough scene k (pairs k) ⊎ IsCover scene k (pairs k)) [
    | inl forest ↦ inl (subst (IsEnough scene k) (sym forest.3) (stripped_is_enough k forest.0 forest.1 forest.2))
    | inr edges ↦ inr (edges_are_cover k (pairs k) edges)
  ]
