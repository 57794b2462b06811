-- The flat rows of a tree in join order whose nodes are forests and share one variable with their parents, over a
-- consistent family of matches: at each flat row all nodes have been tried, and no flat row comes twice.
use Rattle.std.proofs.Common.{◌≡◌, ◌≢◌, ◌⊎◌, inl, inr, ℕ, suc, ◌+◌, ◌<◌, ◌++◌, Bool, true, false, if◌then◌else◌, List, [], ◌∷◌, length, flat_map, AllPairs, Contains, Some, None, append-nil, refl, sym, ap, subst, arith}
use Rattle.std.specs.Prelude.{slice_get}
use Rattle.std.proofs.lemmas.Bool.{cases_eq}
use Rattle.std.proofs.lemmas.List.Elements.{Contains-append_left, Contains-append_right}
use Rattle.bm_term.proofs.Elements.{Contains-single}
use Rattle.alg_model.specs.declared.pattern.TriplePat.{TriplePat}
use Rattle.alg_model.specs.Row.{Row, Extends}
use Rattle.alg_model.specs.Pattern.{triple_vars}
use Rattle.alg_model.specs.Eval.{Interpretation}
use Rattle.alg_model.specs.Solution.{TellsValues}
use Rattle.alg_model.proofs.Joins.{determined}
use Rattle.alg_model.proofs.Lists.{Contains-flat_map, source-flat_map, once-flat_map}
use Rattle.join_graph.specs.Core.{IsForest}
use Rattle.join_graph.specs.Members.{OccursIn}
use Rattle.pattern_tree.specs.Consistent.{IsConsistent}
use Rattle.pattern_tree.specs.Solution.{Family}
use Rattle.pattern_tree.specs.Standing.{StandsAt, OccursAt}
use Rattle.pattern_tree.specs.Tree.{TreeNode, patterns_of}
use Rattle.pattern_tree.proofs.Choices.{list_vars}
use Rattle.pattern_tree.proofs.Connected.{by_occurs, occurs_by}
use Rattle.pattern_tree.proofs.Standing.{patterns_of-stands}
use Rattle.pattern_tree.proofs.Unions.{Extends-refl, Extends-trans}
use Rattle.multiway_join.specs.FlatRows.{with_node, has_parent, ends, rows_from}
use Rattle.multiway_join.specs.JoinOrder.{AreInOrder}
use Rattle.multiway_join.proofs.Complete.{HasParentsFirst}
use Rattle.multiway_join.proofs.Ends.{ends_sound}
use Rattle.multiway_join.proofs.Nodes.{with_cases, stands_here, here_stands}
use Rattle.multiway_join.proofs.Sound.{TreeVarsBelow, AreFrom, first_place, rest_from, after_end, node_below, HasRoot}
use Rattle.pruning_laws.specs.Matches.{AreMatches}
use Rattle.minimality_laws.specs.SimpleTree.{sets_of}
use Rattle.minimality_laws.proofs.Covering.{Blocks, IsTried, none_blocks, tried_past, tried_taken}
use Rattle.simple_join_laws.specs.EachOnce.{HasEachOnce}
use Rattle.simple_join_laws.proofs.NodeEnds.{clean_ends, node_ends_once}

-- what a node wants, behind the variables of the nodes before it
pub record FitsBehind (counts : TriplePat → ℕ) (seen : List ℕ) (node : TreeNode) : Type 0 where
  pub order : AreInOrder counts seen node.patterns
  pub one : (v w : ℕ) → OccursIn (sets_of node) v → Contains seen v → OccursIn (sets_of node) w → Contains seen w → v ≡ w
  pub forest : IsForest (sets_of node)

abbrev pub AreFit : (TriplePat → ℕ) → List ℕ → List TreeNode → Type 0
AreFit counts seen [] = Unit {0}
AreFit counts seen (node ∷ nodes) = FitsBehind counts seen node × AreFit counts (seen ++ list_vars node.patterns) nodes

-- a list of one item has it once
once_alone : {Y : Type 0} (y : Y) → AllPairs (λ a b. a ≢ b) (y ∷ [])
once_alone y i j d lt within = absurd (omega (arith, lt, within))

module _ {V X : Type 0} (interpretation : Interpretation V X) (tells : TellsValues interpretation) (n : ℕ) (tree : List TreeNode) (few : TreeVarsBelow n tree) (root : HasRoot tree) (parents : HasParentsFirst tree)
    (left : Family X) (consistent : IsConsistent interpretation tree left) (matches : AreMatches interpretation tree left) (counts : TriplePat → ℕ) where
  -- the node that has a number is one
  same_node : (k : ℕ) (node other : TreeNode) → slice_get tree k ≡ Some node → slice_get tree k ≡ Some other → node ≡ other
  same_node k node other is is' = cc

  -- on the way through the nodes: the first k have been tried, the row has nodes of these alone, and what occurs at these is seen
  pub record IsUnderWay (k : ℕ) (matched : ℕ → Bool) (row : Row V) (seen : List ℕ) : Type 0 where
    pub positive : 0 < k
    pub tried : IsTried interpretation tells n left tree few root parents k matched row
    pub no_later : (j : ℕ) → matched j ≡ true → j < k
    pub seen_all : (j v : ℕ) → j < k → OccursAt tree j v → Contains seen v

  module _ (k : ℕ) (matched : ℕ → Bool) (row : Row V) (seen : List ℕ) (way : IsUnderWay k matched row seen) (node : TreeNode) (place : slice_get tree k ≡ Some node) where
    matched_seen : (v : ℕ) → Contains (list_vars (patterns_of tree matched)) v → Contains seen v
    matched_seen v at =
        let from = source-flat_map triple_vars (patterns_of tree matched) v at in
        let s = patterns_of-stands tree matched from.0 from.1 in
        way.seen_all s.0 v (way.no_later s.0 s.2) (by_occurs tree s.0 v from.0 s.1 from.2)

    seen_more : (j v : ℕ) → j < suc k → OccursAt tree j v → Contains (seen ++ list_vars node.patterns) v
    seen_more j v low occurs = elim (cases_eq j k) as (λ _. Contains (seen ++ list_vars node.patterns) v) [
      | inl is ↦
          let by = occurs_by tree j v occurs in
          let here = here_stands tree k node place by.0 (subst (λ j. StandsAt tree j by.0) is by.1) in
          Contains-append_right seen (list_vars node.patterns) v (Contains-flat_map triple_vars node.patterns by.0 v here by.2)
      | inr other ↦ Contains-append_left seen (list_vars node.patterns) v (way.seen_all j v (omega (arith, low, other)) occurs)
    ]

    -- past a node whose parent is not held
    way_loose : has_parent matched node.parent ≡ false → IsUnderWay (suc k) matched row (seen ++ list_vars node.patterns)
    way_loose loose = record {
      positive = omega arith;
      tried = tried_past interpretation tells n left tree few root parents k matched row way.tried
          (λ other place' hangs out. let wrong = subst (λ node. has_parent matched node.parent ≡ true) (sym (same_node k node other place place')) hangs in absurd (cc));
      no_later = λ j held. (let low = way.no_later j held in omega (arith, low));
      seen_all = seen_more;
    }

    -- past one at which the row comes to the dead end alone
    way_dead : ends interpretation n left node.patterns row ≡ None ∷ [] → IsUnderWay (suc k) matched row (seen ++ list_vars node.patterns)
    way_dead dead = record {
      positive = omega arith;
      tried = tried_past interpretation tells n left tree few root parents k matched row way.tried
          (λ other place' hangs out. subst (λ node. Blocks interpretation tells n left node.patterns row) (same_node k node other place place')
          (none_blocks interpretation tells n left tree few root parents k node matched row place way.tried.solved
          (λ e at. let wrong = Contains-single None (Some e) (subst (λ list. Contains list (Some e)) dead at) in cc)));
      no_later = λ j held. (let low = way.no_later j held in omega (arith, low));
      seen_all = seen_more;
    }

    -- and on from an end that is a row
    way_on : (e : Row V) → has_parent matched node.parent ≡ true → Contains (ends interpretation n left node.patterns row) (Some e) → IsUnderWay (suc k) (with_node matched k) e (seen ++ list_vars node.patterns) × Extends e row
    way_on e hangs at =
        let taken = tried_taken interpretation tells n left tree few root parents k matched row way.tried node e way.positive place hangs at in (
          record {
            positive = omega arith;
            tried = taken.0;
            no_later = λ j held. elim (with_cases matched k j held) as (λ _. j < suc k) [ inl is ↦ omega (arith, is) | inr old ↦ (let low = way.no_later j old in omega (arith, low)) ];
            seen_all = seen_more;
          },
          taken.1,
        )

    -- two ends that a row extends are one
    one_end : (e f q : Row V) → Contains (ends interpretation n left node.patterns row) (Some e) → Contains (ends interpretation n left node.patterns row) (Some f) → Extends q e → Extends q f → e ≡ f
    one_end e f q at at' over over' =
        let below = node_below interpretation tells n left tree few k node place in
        let first = (ends_sound interpretation tells n left (patterns_of tree matched) node.patterns row e below way.tried.solved.solves at).0 in
        let second = (ends_sound interpretation tells n left (patterns_of tree matched) node.patterns row f below way.tried.solved.solves at').0 in
        determined n (list_vars (patterns_of tree matched ++ node.patterns)) e f q first.width second.width first.binds second.binds over over'

    module _ (fit : FitsBehind counts seen node) where
      clean : (Contains (ends interpretation n left node.patterns row) None → ⊥) ⊎ (ends interpretation n left node.patterns row ≡ None ∷ [])
      clean = clean_ends interpretation tells n tree few left consistent matches k node place counts seen fit.order fit.one fit.forest (patterns_of tree matched) matched_seen node.patterns refl row way.tried.solved.solves

      clean_once : HasEachOnce interpretation tree left → AllPairs (λ a b. a ≢ b) (ends interpretation n left node.patterns row)
      clean_once each = node_ends_once interpretation tells n tree few left consistent matches k node place counts seen fit.order fit.one fit.forest (patterns_of tree matched) matched_seen
          (λ p at. each.once k p (stands_here tree k node place p at)) (λ p at t u row. each.one k p t u row (stands_here tree k node place p at)) row way.tried.solved.solves

  -- ---- to the end

  -- a row at which all nodes have been tried
  pub record IsArrived (row q : Row V) : Type 0 where
    pub set : ℕ → Bool
    pub tried : IsTried interpretation tells n left tree few root parents (length tree) set q
    pub over : Extends q row

  pub arrive : (nodes : List TreeNode) (k : ℕ) (matched : ℕ → Bool) (row q : Row V) (seen : List ℕ) → AreFrom tree k nodes → k + length nodes ≡ length tree → AreFit counts seen nodes → IsUnderWay k matched row seen →
      Contains (rows_from interpretation n left nodes k matched row) q → IsArrived row q
  arrive [] k matched row q seen from last fit way at =
      let e : k ≡ length tree = omega (arith, last) in
      let same = Contains-single row q at in
      record {
        set = matched;
        tried = subst (λ q. IsTried interpretation tells n left tree few root parents (length tree) matched q) same (subst (λ k. IsTried interpretation tells n left tree few root parents k matched row) e way.tried);
        over = subst (λ q. Extends q row) same (Extends-refl row);
      }
  arrive (node ∷ nodes) k matched row q seen from last fit way at =
      let place = first_place tree k node nodes from in
      let rest = rest_from tree k node nodes from in
      let next : suc k + length nodes ≡ length tree = omega (arith, last) in
      let all = ends interpretation n left node.patterns row in
      let tried = flat_map (after_end interpretation n left nodes k matched row) all in
      let skipped = rows_from interpretation n left nodes (suc k) matched row in
      let skip = λ (on : IsUnderWay (suc k) matched row (seen ++ list_vars node.patterns)) (there : Contains skipped q). arrive nodes (suc k) matched row q (seen ++ list_vars node.patterns) rest next fit.1 on there in
      elim (has_parent matched node.parent) as (λ b. has_parent matched node.parent ≡ b → Contains (if b then tried else skipped) q → IsArrived row q) [
        | false ↦ λ loose there. skip (way_loose k matched row seen way node place loose) there
        | true ↦ λ hangs there.
            let source = source-flat_map (after_end interpretation n left nodes k matched row) all q there in
            elim source.0 as (λ end. Contains all end → Contains (after_end interpretation n left nodes k matched row end) q → IsArrived row q) [
              | None ↦ λ among later. elim (clean k matched row seen way node place fit.0) as (λ _. IsArrived row q) [
                | inl live ↦ absurd (live among)
                | inr dead ↦ skip (way_dead k matched row seen way node place dead) later
              ]
              | Some e ↦ λ among later.
                  let on = way_on k matched row seen way node place e hangs among in
                  let end = arrive nodes (suc k) (with_node matched k) e q (seen ++ list_vars node.patterns) rest next fit.1 on.0 later in
                  record { set = end.set; tried = end.tried; over = Extends-trans q e row end.over on.1 }
            ] source.1 source.2
      ] refl at

  -- ---- each once

  module _ (each : HasEachOnce interpretation tree left) where
    pub once_from : (nodes : List TreeNode) (k : ℕ) (matched : ℕ → Bool) (row : Row V) (seen : List ℕ) → AreFrom tree k nodes → k + length nodes ≡ length tree → AreFit counts seen nodes → IsUnderWay k matched row seen →
        AllPairs (λ r s. r ≢ s) (rows_from interpretation n left nodes k matched row)
    once_from [] k matched row seen from last fit way = once_alone row
    once_from (node ∷ nodes) k matched row seen from last fit way =
        let place = first_place tree k node nodes from in
        let rest = rest_from tree k node nodes from in
        let next : suc k + length nodes ≡ length tree = omega (arith, last) in
        let more = seen ++ list_vars node.patterns in
        let all = ends interpretation n left node.patterns row in
        let after = after_end interpretation n left nodes k matched row in
        let skipped = rows_from interpretation n left nodes (suc k) matched row in
        let skip = λ (on : IsUnderWay (suc k) matched row more). once_from nodes (suc k) matched row more rest next fit.1 on in
        elim (has_parent matched node.parent) as (λ b. has_parent matched node.parent ≡ b → AllPairs (λ r s. r ≢ s) (if b then flat_map after all else skipped)) [
          | false ↦ λ loose. skip (way_loose k matched row seen way node place loose)
          | true ↦ λ hangs. elim (clean k matched row seen way node place fit.0) as (λ _. AllPairs (λ r s. r ≢ s) (flat_map after all)) [
            | inr dead ↦ subst (λ list. AllPairs (λ r s. r ≢ s) (flat_map after list)) (sym dead) (subst (AllPairs (λ r s. r ≢ s)) (sym (append-nil skipped)) (skip (way_dead k matched row seen way node place dead)))
            | inl live ↦ once-flat_map after all (clean_once k matched row seen way node place fit.0 each)
                (λ end among. elim end as (λ end. Contains all end → AllPairs (λ r s. r ≢ s) (after end)) [
                  | None ↦ λ among. absurd (live among)
                  | Some e ↦ λ among. once_from nodes (suc k) (with_node matched k) e more rest next fit.1 (way_on k matched row seen way node place e hangs among).0
                ] among)
                (λ a b q at_a at_b here there. elim a as (λ a. Contains all a → Contains (after a) q → a ≡ b) [
                  | None ↦ λ at_a here. absurd (live at_a)
                  | Some e ↦ λ at_a here. elim b as (λ b. Contains all b → Contains (after b) q → Some e ≡ b) [
                    | None ↦ λ at_b there. absurd (live at_b)
                    | Some f ↦ λ at_b there.
                        let first = arrive nodes (suc k) (with_node matched k) e q more rest next fit.1 (way_on k matched row seen way node place e hangs at_a).0 here in
                        let second = arrive nodes (suc k) (with_node matched k) f q more rest next fit.1 (way_on k matched row seen way node place f hangs at_b).0 there in
                        ap (λ e. Some e) (one_end k matched row seen way node place e f q at_a at_b first.over second.over)
                  ] at_b there
                ] at_a here)
          ]
        ] refl
