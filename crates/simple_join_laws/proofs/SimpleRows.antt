-- The flat rows of a simple tree in join order: exactly the rows of the maximal partial solutions, each once.
use Rattle.std.proofs.Common.{◌≡◌, ◌≢◌, ◌↔◌, inl, inr, ℕ, suc, ◌+◌, ◌<◌, ◌++◌, Bool, Some, List, [], ◌∷◌, AllPairs, Contains, sym, ◌∙◌, subst, arith}
use Rattle.std.specs.Prelude.{slice_get}
use Rattle.std.proofs.lemmas.List.Elements.{Contains-append_cases}
use Rattle.std.proofs.lemmas.List.Sorted.{IsPermutation-map}
use Rattle.bm_term.proofs.Elements.{Contains-nil}
use Rattle.alg_model.specs.declared.pattern.TriplePat.{TriplePat}
use Rattle.alg_model.specs.Row.{Row}
use Rattle.alg_model.specs.Pattern.{Algebra}
use Rattle.alg_model.specs.VarSet.{triple_set}
use Rattle.alg_model.specs.Eval.{Interpretation}
use Rattle.alg_model.specs.Limits.{PatternKeepsLimits}
use Rattle.alg_model.specs.Solution.{TellsValues}
use Rattle.alg_model.specs.WellDesigned.{IsWellDesigned}
use Rattle.join_graph.specs.Members.{OccursIn}
use Rattle.pattern_tree.specs.BestRows.{AreBest}
use Rattle.pattern_tree.specs.Consistent.{IsConsistent, IsGreatestConsistent}
use Rattle.pattern_tree.specs.Solution.{Family, IsPartialSolution, IsMaximalRow}
use Rattle.pattern_tree.specs.Standing.{OccursAt, IsConnected}
use Rattle.pattern_tree.specs.Tree.{TreeNode, tree_of}
use Rattle.pattern_tree.proofs.Choices.{list_vars}
use Rattle.pattern_tree.proofs.Connected.{tree-connected}
use Rattle.multiway_join.specs.FlatRows.{flat_rows_of}
use Rattle.multiway_join.specs.JoinOrder.{AreNodeOrders, IsJoinOrder}
use Rattle.multiway_join.proofs.Complete.{HasParentsFirst}
use Rattle.multiway_join.proofs.FlatLaws.{tree_below, tree_root, tree_parents, each_maximal_comes}
use Rattle.multiway_join.proofs.Same.{AreAlike, order_alike, turned, stands_alike, occurs_alike, within_alike, connected_alike, below_alike, root_alike, parents_alike, maximal_alike}
use Rattle.multiway_join.proofs.Sound.{TreeVarsBelow, AreFrom, first_place, rest_from, HasRoot}
use Rattle.pruning_laws.specs.Matches.{AreMatches}
use Rattle.pruning_laws.proofs.SceneShows.{no_pattern}
use Rattle.minimality_laws.specs.SimpleTree.{sets_of, AreForests, SharesOne}
use Rattle.minimality_laws.proofs.Covering.{tried_is_maximal}
use Rattle.minimality_laws.proofs.Minimal.{same_solved}
use Rattle.minimality_laws.proofs.Rising.{within_low}
use Rattle.minimality_laws.proofs.SetVars.{occurs_vars}
use Rattle.simple_join_laws.specs.EachOnce.{HasEachOnce}
use Rattle.simple_join_laws.proofs.FlatRoots.{flat_arrives, flat_once}
use Rattle.simple_join_laws.proofs.Forests.{forest_permuted}
use Rattle.simple_join_laws.proofs.Walking.{AreFit}

-- ---- what a tree has, its join order has

module _ {V X : Type 0} (interpretation : Interpretation V X) (tree other : List TreeNode) (alike : AreAlike tree other) (family : Family X) where
  consistent_alike : IsConsistent interpretation tree family → IsConsistent interpretation other family
  consistent_alike consistent = record {
    values = λ k above p q t v x stands stands' within at takes has.
        consistent.values k above p q t v x (stands_alike other tree alike.from k p stands) (stands_alike other tree alike.from above q stands') (within_alike other tree alike.from above k within) at takes has;
    emptied = λ k above p q stands stands' within empty.
        consistent.emptied k above p q (stands_alike other tree alike.from k p stands) (stands_alike other tree alike.from above q stands') (within_alike other tree alike.from above k within) empty;
  }

  matches_alike : AreMatches interpretation tree family → AreMatches interpretation other family
  matches_alike matches k p t stands at = matches k p t (stands_alike other tree alike.from k p stands) at

  each_once_alike : HasEachOnce interpretation tree family → HasEachOnce interpretation other family
  each_once_alike each = record {
    once = λ k p stands. each.once k p (stands_alike other tree alike.from k p stands);
    one = λ k p t u row stands. each.one k p t u row (stands_alike other tree alike.from k p stands);
  }

share_alike : (tree other : List TreeNode) → AreAlike tree other → SharesOne tree → SharesOne other
share_alike tree other alike share k parent v w node place has v_here v_up w_here w_up =
    let back = alike.from.node k node place in
    let to = occurs_alike other tree alike.from in
    share k parent v w back.other back.stands (sym back.parent ∙ has) (to k v v_here) (to parent v v_up) (to k w w_here) (to parent w w_up)

-- ---- each node fits behind those before it

module _ (counts : TriplePat → ℕ) (plain tree : List TreeNode) (forests : AreForests plain) (root : HasRoot tree) (parents : HasParentsFirst tree) (connected : IsConnected tree) (share : SharesOne tree) where
  -- a variable that is seen occurs at a node before
  abbrev IsSeenBefore : ℕ → List ℕ → Type 0
  IsSeenBefore k seen = (v : ℕ) → Contains seen v → (j : ℕ) × (j < k) × OccursAt tree j v

  module _ (k : ℕ) (first : TreeNode) (place : slice_get tree k ≡ Some first) (seen : List ℕ) (back : IsSeenBefore k seen) where
    occurs_here : (v : ℕ) → OccursIn (sets_of first) v → OccursAt tree k v
    occurs_here v occurs = record { node = first; stands = place; among = (occurs_vars first.patterns no_pattern v).0 occurs }

    -- it occurs at the parent
    seen_above : (p v : ℕ) → first.parent ≡ Some p → OccursIn (sets_of first) v → Contains seen v → OccursAt tree p v
    seen_above p v has occurs at =
        let early = back v at in
        connected.up k p early.0 v first place has (occurs_here v occurs) early.2 (λ within. let late = within_low tree root parents k early.0 within in let low = early.1 in omega (arith, late, low))

    one_seen : (v w : ℕ) → OccursIn (sets_of first) v → Contains seen v → OccursIn (sets_of first) w → Contains seen w → v ≡ w
    one_seen v w occurs_v at_v occurs_w at_w =
        let early = back v at_v in
        let up = parents.before k first (let low = early.1 in omega (arith, low)) place in
        share k up.0 v w first place up.1 (occurs_here v occurs_v) (seen_above up.0 v up.1 occurs_v at_v) (occurs_here w occurs_w) (seen_above up.0 w up.1 occurs_w at_w)

    back_more : IsSeenBefore (suc k) (seen ++ list_vars first.patterns)
    back_more v at = elim (Contains-append_cases seen (list_vars first.patterns) v at) as (λ _. (j : ℕ) × (j < suc k) × OccursAt tree j v) [
      | inl old ↦ let early = back v old in (early.0, (let low = early.1 in omega (arith, low)), early.2)
      | inr own ↦ (k, omega arith, record { node = first; stands = place; among = own })
    ]

  all_fit : (nodes ordered : List TreeNode) (k : ℕ) (seen : List ℕ) → AreFrom plain k nodes → AreFrom tree k ordered → AreNodeOrders counts seen nodes ordered → IsSeenBefore k seen → AreFit counts seen ordered
  all_fit [] [] k seen from from' order back = tt
  all_fit [] (first ∷ ordered) k seen from from' order back = absurd order
  all_fit (node ∷ nodes) [] k seen from from' order back = absurd order
  all_fit (node ∷ nodes) (first ∷ ordered) k seen from from' order back =
      let place = first_place tree k first ordered from' in (
        record {
          order = order.0.in_order;
          one = one_seen k first place seen back;
          forest = forest_permuted (sets_of node) (sets_of first) (IsPermutation-map triple_set node.patterns first.patterns order.0.patterns) (forests k node (first_place plain k node nodes from));
        },
        all_fit nodes ordered (suc k) (seen ++ list_vars first.patterns) (rest_from plain k node nodes from) (rest_from tree k first ordered from') order.1 (back_more k first place seen back),
      )

from_start : (tree : List TreeNode) → AreFrom tree 0 tree
from_start tree j node is = let e : j ≡ j + 0 = omega arith in subst (λ i. slice_get tree i ≡ Some node) e is

-- ---- any tree in join order

module _ {V X : Type 0} (interpretation : Interpretation V X) (tells : TellsValues interpretation) (n : ℕ) (left : Family X) (counts : TriplePat → ℕ) where
  each_maximal : (tree : List TreeNode) (few : TreeVarsBelow n tree) (root : HasRoot tree) (parents : HasParentsFirst tree) → IsConsistent interpretation tree left → AreMatches interpretation tree left → AreFit counts [] tree →
      (q : Row V) → Contains (flat_rows_of interpretation n left tree) q → IsMaximalRow interpretation n tree left q
  each_maximal [] few root parents consistent matches fit q at = absurd (Contains-nil q at)
  each_maximal (first ∷ nodes) few root parents consistent matches fit q at =
      let end = flat_arrives interpretation tells n first nodes few root parents left consistent matches counts fit q at in
      record { partial = (end.0, end.1.solved); maximal = tried_is_maximal interpretation tells n left (first ∷ nodes) few root parents end.0 q end.1 }

  none_twice : (tree : List TreeNode) (few : TreeVarsBelow n tree) (root : HasRoot tree) (parents : HasParentsFirst tree) → IsConsistent interpretation tree left → AreMatches interpretation tree left → AreFit counts [] tree →
      HasEachOnce interpretation tree left → AllPairs (λ r s. r ≢ s) (flat_rows_of interpretation n left tree)
  none_twice [] few root parents consistent matches fit each = λ i j d lt within. absurd (omega (arith, within))
  none_twice (first ∷ nodes) few root parents consistent matches fit each = flat_once interpretation tells n first nodes few root parents left consistent matches counts fit each

-- families with the same partial solutions have the same maximal rows
maximal_same : {V X : Type 0} (interpretation : Interpretation V X) (n : ℕ) (tree : List TreeNode) (left whole : Family X) →
    ((set : ℕ → Bool) (row : Row V) → IsPartialSolution interpretation n tree left set row ↔ IsPartialSolution interpretation n tree whole set row) → (row : Row V) → IsMaximalRow interpretation n tree left row → IsMaximalRow interpretation n tree whole row
maximal_same interpretation n tree left whole same row is = record {
  partial = (is.partial.0, (same is.partial.0 row).0 is.partial.1);
  maximal = λ other partial. is.maximal other (partial.0, (same partial.0 other).1 partial.1);
}

module _ {V X : Type 0} (interpretation : Interpretation V X) (n : ℕ) (counts : TriplePat → ℕ) (pattern : Algebra) (ordered : List TreeNode) (whole left : Family X) (tells : TellsValues interpretation) (well : IsWellDesigned pattern) (keeps : PatternKeepsLimits n pattern)
    (forests : AreForests (tree_of pattern)) (share : SharesOne (tree_of pattern)) (matches : AreMatches interpretation (tree_of pattern) whole) (greatest : IsGreatestConsistent interpretation (tree_of pattern) whole left) (order : IsJoinOrder counts (tree_of pattern) ordered) where
  abbrev tree : List TreeNode
  tree = tree_of pattern

  abbrev alike : AreAlike tree ordered
  alike = order_alike counts tree ordered order

  few : TreeVarsBelow n ordered
  few = below_alike tree ordered alike n (tree_below n pattern keeps.vars_below)

  root : HasRoot ordered
  root = root_alike tree ordered alike (tree_root pattern)

  parents : HasParentsFirst ordered
  parents = parents_alike tree ordered alike (tree_parents pattern)

  consistent : IsConsistent interpretation ordered left
  consistent = consistent_alike interpretation tree ordered alike left greatest.consistent

  left_matches : AreMatches interpretation ordered left
  left_matches = matches_alike interpretation tree ordered alike left (λ k p t stands at. matches k p t stands (greatest.within k p t stands at))

  fit : AreFit counts [] ordered
  fit = all_fit counts tree ordered forests root parents (connected_alike tree ordered alike (tree-connected pattern well)) (share_alike tree ordered alike share) tree ordered 0 [] (from_start tree) (from_start ordered) order
      (λ v at. absurd (Contains-nil v at))

  abbrev rows : List (Row V)
  rows = flat_rows_of interpretation n left ordered

  same : (set : ℕ → Bool) (row : Row V) → IsPartialSolution interpretation n tree left set row ↔ IsPartialSolution interpretation n tree whole set row
  same set row = same_solved interpretation tells n pattern well keeps whole left greatest set row

  flat_is_maximal : (row : Row V) → Contains rows row → IsMaximalRow interpretation n tree whole row
  flat_is_maximal row at =
      maximal_same interpretation n tree left whole same row
      (maximal_alike interpretation n left ordered tree (turned tree ordered alike) row (each_maximal interpretation tells n left counts ordered few root parents consistent left_matches fit row at))

  maximal_is_flat : (row : Row V) → IsMaximalRow interpretation n tree whole row → Contains rows row
  maximal_is_flat row is =
      each_maximal_comes interpretation tells n left counts pattern ordered keeps.vars_below order well row
      (maximal_same interpretation n tree whole left (λ set row. ((same set row).1, (same set row).0)) row is)

  pub exactly_maximal : (row : Row V) → Contains rows row ↔ IsMaximalRow interpretation n tree whole row
  exactly_maximal row = (flat_is_maximal row, maximal_is_flat row)

  pub each_row_once : HasEachOnce interpretation tree left → AllPairs (λ r s. r ≢ s) rows
  each_row_once each = none_twice interpretation tells n left counts ordered few root parents consistent left_matches fit (each_once_alike interpretation tree ordered alike left each)

  -- so no flat row extends another
  pub rows_are_best : HasEachOnce interpretation tree left → AreBest rows rows
  rows_are_best each = record {
    exactly = λ row. (
      λ at. (at, λ extended. (flat_is_maximal row at).maximal extended.other (flat_is_maximal extended.other extended.listed).partial extended.extends extended.more),
      λ is. is.0,
    );
    once = each_row_once each;
  }
