-- The flat rows from the root on: at each all nodes have been tried, and none comes twice.
use Rattle.std.proofs.Common.{◌≡◌, ◌≢◌, ◌⊎◌, ℕ, ◌<◌, ◌++◌, Bool, List, [], ◌∷◌, length, AllPairs, Contains, Option, Some, None, refl, ap, subst, arith, eqb-true}
use Rattle.bm_term.proofs.Elements.{Contains-nil}
use Rattle.alg_model.specs.declared.pattern.TriplePat.{TriplePat}
use Rattle.alg_model.specs.Row.{Row, unbound}
use Rattle.alg_model.specs.Pattern.{triple_vars}
use Rattle.alg_model.specs.Eval.{Interpretation}
use Rattle.alg_model.specs.Solution.{TellsValues}
use Rattle.alg_model.proofs.Joins.{determined}
use Rattle.alg_model.proofs.Lists.{Contains-flat_map, source-flat_map, once-flat_map}
use Rattle.pattern_tree.specs.Consistent.{IsConsistent}
use Rattle.pattern_tree.specs.Solution.{Family, IsSolutionOf}
use Rattle.pattern_tree.specs.Standing.{StandsAt, OccursAt}
use Rattle.pattern_tree.specs.Tree.{TreeNode}
use Rattle.pattern_tree.proofs.Choices.{list_vars}
use Rattle.pattern_tree.proofs.Connected.{occurs_by}
use Rattle.multiway_join.specs.FlatRows.{ends, flat_rows_of}
use Rattle.multiway_join.proofs.Complete.{HasParentsFirst}
use Rattle.multiway_join.proofs.Ends.{ends_sound}
use Rattle.multiway_join.proofs.Nodes.{stands_here, here_stands}
use Rattle.multiway_join.proofs.Sound.{TreeVarsBelow, root_alone, after_root, nothing_solved, node_below, HasRoot, nodes_from}
use Rattle.pruning_laws.specs.Matches.{AreMatches}
use Rattle.minimality_laws.proofs.Covering.{IsTried, tried_root}
use Rattle.minimality_laws.proofs.Rising.{root_solved}
use Rattle.simple_join_laws.specs.EachOnce.{HasEachOnce}
use Rattle.simple_join_laws.proofs.NodeEnds.{clean_ends, node_ends_once}
use Rattle.simple_join_laws.proofs.Walking.{AreFit, IsUnderWay, IsArrived, arrive, once_from}

module _ {V X : Type 0} (interpretation : Interpretation V X) (tells : TellsValues interpretation) (n : ℕ) (first : TreeNode) (nodes : List TreeNode) (few : TreeVarsBelow n (first ∷ nodes)) (root : HasRoot (first ∷ nodes)) (parents : HasParentsFirst (first ∷ nodes))
    (left : Family X) (consistent : IsConsistent interpretation (first ∷ nodes) left) (matches : AreMatches interpretation (first ∷ nodes) left) (counts : TriplePat → ℕ) (fit : AreFit counts [] (first ∷ nodes)) where
  abbrev tree : List TreeNode
  tree = first ∷ nodes

  abbrev all : List (Option (Row V))
  all = ends interpretation n left first.patterns (unbound V n)

  -- an end of the root solves the root
  end_solves : (row : Row V) → Contains all (Some row) → IsSolutionOf interpretation n left first.patterns row
  end_solves row at = (ends_sound interpretation tells n left [] first.patterns (unbound V n) row (node_below interpretation tells n left tree few 0 first refl) (nothing_solved interpretation n left) at).0

  root_seen : (j v : ℕ) → j < 1 → OccursAt tree j v → Contains ([] ++ list_vars first.patterns) v
  root_seen j v low occurs =
      let is : j ≡ 0 = omega (arith, low) in
      let by = occurs_by tree j v occurs in
      Contains-flat_map triple_vars first.patterns by.0 v (here_stands tree 0 first refl by.0 (subst (λ j. StandsAt tree j by.0) is by.1)) by.2

  root_way : (row : Row V) → Contains all (Some row) → IsUnderWay interpretation tells n tree few root parents left consistent matches counts 1 root_alone row ([] ++ list_vars first.patterns)
  root_way row at = record {
    positive = omega arith;
    tried = tried_root interpretation tells n left tree few root parents root_alone row (root_solved interpretation n left tree root first refl row (end_solves row at));
    no_later = λ j held. (let is = eqb-true j 0 held in omega (arith, is));
    seen_all = root_seen;
  }

  pub root_arrives : (row q : Row V) → Contains all (Some row) → Contains (after_root interpretation n left nodes (Some row)) q → IsArrived interpretation tells n tree few root parents left consistent matches counts row q
  root_arrives row q at there = arrive interpretation tells n tree few root parents left consistent matches counts nodes 1 root_alone row q ([] ++ list_vars first.patterns) (nodes_from first nodes) (omega arith) fit.1 (root_way row at) there

  pub flat_arrives : (q : Row V) → Contains (flat_rows_of interpretation n left tree) q → (set : ℕ → Bool) × IsTried interpretation tells n left tree few root parents (length tree) set q
  flat_arrives q at =
      let source = source-flat_map (after_root interpretation n left nodes) all q at in
      after source.0 source.1 source.2 where
        after : (end : Option (Row V)) → Contains all end → Contains (after_root interpretation n left nodes end) q → (set : ℕ → Bool) × IsTried interpretation tells n left tree few root parents (length tree) set q
        after None among there = absurd (Contains-nil q there)
        after (Some row) among there = let end = root_arrives row q among there in (end.set, end.tried)

  module _ (each : HasEachOnce interpretation tree left) where
    none_seen : (v : ℕ) → Contains (list_vars []) v → Contains [] v
    none_seen v at = at

    root_once : AllPairs (λ a b. a ≢ b) all
    root_once = node_ends_once interpretation tells n tree few left consistent matches 0 first refl counts [] fit.0.order fit.0.one fit.0.forest [] none_seen
        (λ p at. each.once 0 p (stands_here tree 0 first refl p at)) (λ p at t u row. each.one 0 p t u row (stands_here tree 0 first refl p at)) (unbound V n) (nothing_solved interpretation n left)

    root_clean : (Contains all None → ⊥) ⊎ (all ≡ None ∷ [])
    root_clean = clean_ends interpretation tells n tree few left consistent matches 0 first refl counts [] fit.0.order fit.0.one fit.0.forest [] none_seen first.patterns refl (unbound V n) (nothing_solved interpretation n left)

    after_once : (end : Option (Row V)) → Contains all end → AllPairs (λ r s. r ≢ s) (after_root interpretation n left nodes end)
    after_once None at = λ i j d lt within. absurd (omega (arith, within))
    after_once (Some row) at = once_from interpretation tells n tree few root parents left consistent matches counts each nodes 1 root_alone row ([] ++ list_vars first.patterns) (nodes_from first nodes) (omega arith) fit.1 (root_way row at)

    one_root : (a b : Option (Row V)) (q : Row V) → Contains all a → Contains all b → Contains (after_root interpretation n left nodes a) q → Contains (after_root interpretation n left nodes b) q → a ≡ b
    one_root None b q at_a at_b here there = absurd (Contains-nil q here)
    one_root (Some e) None q at_a at_b here there = absurd (Contains-nil q there)
    one_root (Some e) (Some f) q at_a at_b here there =
        let is = end_solves e at_a in
        let is' = end_solves f at_b in
        ap (λ e. Some e) (determined n (list_vars first.patterns) e f q is.width is'.width is.binds is'.binds (root_arrives e q at_a here).over (root_arrives f q at_b there).over)

    pub flat_once : AllPairs (λ r s. r ≢ s) (flat_rows_of interpretation n left tree)
    flat_once = once-flat_map (after_root interpretation n left nodes) all root_once after_once one_root
