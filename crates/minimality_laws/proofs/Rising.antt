-- From a row that solves a node up to a partial solution that has it: each node above is solved by a row that agrees with
-- the one below at the variable that the two share.
use Rattle.std.proofs.Common.{◌≡◌, ℕ, zero, suc, ◌<◌, ◌≤◌, ◌++◌, inl, inr, Bool, true, List, [], ◌∷◌, Contains, Some, refl, sym, ◌∙◌, subst, arith, eqb-true}
use Rattle.std.specs.Prelude.{slice_get}
use Rattle.std.proofs.lemmas.List.Elements.{All-contains}
use Rattle.bm_term.proofs.Elements.{Contains-head, Contains-nil}
use Rattle.alg_model.specs.declared.pattern.TriplePat.{TriplePat}
use Rattle.alg_model.specs.Row.{Row, binding, unbound, Extends}
use Rattle.alg_model.specs.Pattern.{triple_vars}
use Rattle.alg_model.specs.Eval.{Interpretation}
use Rattle.alg_model.specs.Solution.{TellsValues}
use Rattle.alg_model.proofs.Cells.{IsSome-from_value}
use Rattle.alg_model.proofs.Lists.{source-flat_map}
use Rattle.pattern_tree.specs.Consistent.{IsConsistent}
use Rattle.pattern_tree.specs.Solution.{Family, IsSolutionOf, IsPartialSolution}
use Rattle.pattern_tree.specs.Standing.{StandsAt, OccursAt, IsWithin, itself, below, IsConnected}
use Rattle.pattern_tree.specs.Tree.{TreeNode, patterns_of}
use Rattle.pattern_tree.proofs.Choices.{list_vars}
use Rattle.pattern_tree.proofs.Connected.{by_occurs, node_low, node_there}
use Rattle.pattern_tree.proofs.Evaluation.{Agree, merge_of_agreeing}
use Rattle.pattern_tree.proofs.Pruning.{binds_value, takes_some}
use Rattle.pattern_tree.proofs.Standing.{patterns_of-stands}
use Rattle.pattern_tree.proofs.Unions.{IsMade, solution-union, Extends-refl}
use Rattle.multiway_join.specs.FlatRows.{with_node}
use Rattle.multiway_join.proofs.Complete.{HasParentsFirst}
use Rattle.multiway_join.proofs.Nodes.{with_itself, with_cases, held_parent, stands_here, same_solutions, grown_solution}
use Rattle.multiway_join.proofs.Sound.{TreeVarsBelow, HasRoot, nothing_solved, root_alone, root_patterns, root_rooted}
use Rattle.pruning_laws.specs.Matches.{AreMatches}
use Rattle.minimality_laws.specs.SimpleTree.{AreForests, SharesOne}
use Rattle.minimality_laws.proofs.NodeRows.{node_row}
use Rattle.minimality_laws.proofs.SetVars.{told_shared}

module _ (tree : List TreeNode) (root : HasRoot tree) (parents : HasParentsFirst tree) where
  -- a node within a subtree is not before its top
  pub within_low : (top k : ℕ) → IsWithin tree top k → top ≤ k
  within_low top k itself = omega arith
  within_low top zero (below {parent = parent} node stands has rest) = (let none = root.none node stands in absurd (cc))
  within_low top (suc k) (below {parent = parent} node stands has rest) =
      let up = parents.before (suc k) node (omega arith) stands in
      let one : up.0 ≡ parent = (let is = up.1 in cc) in
      let low = up.2 in
      let rest_low = within_low top parent rest in
      omega (arith, low, one, rest_low)

  -- what is within a subtree is within that of the parent of its top
  pub within_parent : (top parent k : ℕ) (node : TreeNode) → slice_get tree top ≡ Some node → node.parent ≡ Some parent → IsWithin tree top k → IsWithin tree parent k
  within_parent top parent k node place has itself = below node place has itself
  within_parent top parent k node place has (below other stands hangs rest) = below other stands hangs (within_parent top parent _ node place has rest)

-- the root's set, of a row that solves the root
pub root_solved : {V X : Type 0} (interpretation : Interpretation V X) (n : ℕ) (family : Family X) (tree : List TreeNode) → HasRoot tree → (node : TreeNode) → slice_get tree 0 ≡ Some node → (row : Row V) →
    IsSolutionOf interpretation n family node.patterns row → IsPartialSolution interpretation n tree family root_alone row
root_solved interpretation n family [] root node place row solves = cc
root_solved interpretation n family (first ∷ nodes) root node place row solves =
    let same : node ≡ first = cc in
    record {
      rooted = root_rooted first nodes root;
      solves = same_solutions interpretation n family ([] ++ first.patterns) (patterns_of (first ∷ nodes) root_alone) row (root_patterns first nodes) (subst (λ node. IsSolutionOf interpretation n family node.patterns row) same solves);
    }

-- what a partial solution binds occurs at a node of its set
pub bound_at : {V X : Type 0} (interpretation : Interpretation V X) (n : ℕ) (family : Family X) (tree : List TreeNode) (set : ℕ → Bool) (row : Row V) → IsPartialSolution interpretation n tree family set row →
    (var : ℕ) (value : V) → binding row var ≡ Some value → (k : ℕ) × OccursAt tree k var × (set k ≡ true)
bound_at interpretation n family tree set row solved var value bound =
    let from = source-flat_map triple_vars (patterns_of tree set) var ((solved.solves.binds var).0 (IsSome-from_value (binding row var) value bound)) in
    let s = patterns_of-stands tree set from.0 from.1 in
    (s.0, by_occurs tree s.0 var from.0 s.1 from.2, s.2)

module _ {V X : Type 0} (interpretation : Interpretation V X) (tells : TellsValues interpretation) (n : ℕ) (tree : List TreeNode) (few : TreeVarsBelow n tree) (root : HasRoot tree) (parents : HasParentsFirst tree)
    (connected : IsConnected tree) (forests : AreForests tree) (share : SharesOne tree) (left : Family X) (consistent : IsConsistent interpretation tree left) (matches : AreMatches interpretation tree left) where
  -- a triple of a node within the subtree
  pub record IsFilledBelow (k : ℕ) : Type 0 where
    pub node : ℕ
    pub pattern : TriplePat
    pub triple : X
    pub stands : StandsAt tree node pattern
    pub among : Contains (left pattern) triple
    pub within : IsWithin tree k node

  -- a row that solves the parent of a node, and agrees with a row of the node
  pub record HasParentRow (k p : ℕ) (above : TreeNode) (row : Row V) : Type 0 where
    pub other : Row V
    pub solves : IsSolutionOf interpretation n left above.patterns other
    pub agrees : (var : ℕ) → OccursAt tree k var → OccursAt tree p var → binding other var ≡ binding row var

  module _ (k p : ℕ) (node above : TreeNode) (place : slice_get tree k ≡ Some node) (hangs : node.parent ≡ Some p) (place_p : slice_get tree p ≡ Some above) (row : Row V) (solves : IsSolutionOf interpretation n left node.patterns row) where
    here_vars : (j : ℕ) (other : TreeNode) → slice_get tree j ≡ Some other → (var : ℕ) → OccursAt tree j var → Contains (list_vars other.patterns) var
    here_vars j other at var occurs = (let is = occurs.stands in let same : occurs.node ≡ other = cc in subst (λ node. Contains (list_vars node.patterns) var) same occurs.among)

    -- where they share a variable, by its value
    by_shared : (v : ℕ) → OccursAt tree k v → OccursAt tree p v → HasParentRow k p above row
    by_shared v occurs occurs_p =
        let q = source-flat_map triple_vars node.patterns v (here_vars k node place v occurs) in
        let o = source-flat_map triple_vars above.patterns v (here_vars p above place_p v occurs_p) in
        let made = All-contains (IsMade interpretation n left row) node.patterns q.0 solves.made q.1 in
        let takes = takes_some interpretation q.0 made.1 v q.2 in
        let found = consistent.values k p q.0 o.0 made.1 v takes.0 (stands_here tree k node place q.0 q.1) (stands_here tree p above place_p o.0 o.1) (below node place hangs itself) (made.0, made.2, made.3) takes.1 o.2 in
        let up = node_row interpretation n tree left p above place_p consistent matches few (forests p above place_p) o.0 found.0 o.1 found.1 in
        let first = binds_value interpretation up.row o.0 found.0 v takes.0 up.makes found.2 in
        let second = binds_value interpretation row q.0 made.1 v takes.0 made.4 takes.1 in
        record {
          other = up.row;
          solves = up.solves;
          agrees = λ var at_k at_p. subst (λ var. binding up.row var ≡ binding row var) (share k p v var node place hangs occurs occurs_p at_k at_p) (first ∙ sym second);
        }

    -- and where they share none, by any triple
    by_any : IsFilledBelow k → ((v : ℕ) → OccursAt tree k v → OccursAt tree p v → ⊥) → HasParentRow k p above row
    by_any filled none = solve above.patterns refl where
      agree : (other : Row V) → (var : ℕ) → OccursAt tree k var → OccursAt tree p var → binding other var ≡ binding row var
      agree other var at_k at_p = absurd (none var at_k at_p)

      with_list : (o : TriplePat) → Contains above.patterns o → (list : List X) → left o ≡ list → HasParentRow k p above row
      with_list o at [] e =
          let within = within_parent tree root parents k p filled.node node place hangs filled.within in
          let empty = consistent.emptied filled.node p filled.pattern o filled.stands (stands_here tree p above place_p o at) within e in
          absurd (Contains-nil filled.triple (subst (λ l. Contains l filled.triple) empty filled.among))
      with_list o at (t ∷ list) e =
          let up = node_row interpretation n tree left p above place_p consistent matches few (forests p above place_p) o t at (subst (λ l. Contains l t) (sym e) (Contains-head t list)) in
          record { other = up.row; solves = up.solves; agrees = agree up.row }

      solve : (patterns : List TriplePat) → above.patterns ≡ patterns → HasParentRow k p above row
      solve [] e = record { other = unbound V n; solves = subst (λ list. IsSolutionOf interpretation n left list (unbound V n)) (sym e) (nothing_solved interpretation n left); agrees = agree (unbound V n) }
      solve (o ∷ patterns) e = with_list o (subst (λ list. Contains list o) (sym e) (Contains-head o patterns)) (left o) refl

    pub parent_row : IsFilledBelow k → HasParentRow k p above row
    parent_row filled = elim (told_shared (list_vars node.patterns) (list_vars above.patterns)) as (λ _. HasParentRow k p above row) [
      | inl some ↦ by_shared some.0 (record { node = node; stands = place; among = some.1 }) (record { node = above; stands = place_p; among = some.2 })
      | inr none ↦ by_any filled (λ v at_k at_p. none v (here_vars k node place v at_k) (here_vars p above place_p v at_p))
    ]

  -- a partial solution that has the node, and no later one
  pub record HasRise (k : ℕ) (row : Row V) : Type 0 where
    pub set : ℕ → Bool
    pub whole : Row V
    pub solved : IsPartialSolution interpretation n tree left set whole
    pub over : Extends whole row
    pub held : set k ≡ true
    pub no_later : (j : ℕ) → set j ≡ true → j ≤ k

  -- the solution of the parent, with the row of the node
  module _ (k p : ℕ) (node : TreeNode) (place : slice_get tree k ≡ Some node) (hangs : node.parent ≡ Some p) (first : p < k) (row other : Row V) (solves : IsSolutionOf interpretation n left node.patterns row)
      (agrees : (var : ℕ) → OccursAt tree k var → OccursAt tree p var → binding other var ≡ binding row var) (risen : HasRise p other) where
    rise_agree : Agree interpretation tells n [] risen.whole row
    rise_agree = record { along = along } where
      along : (var : ℕ) (v w : V) → binding risen.whole var ≡ Some v → binding row var ≡ Some w → v ≡ w
      along var v w at_whole at_row =
          let there = bound_at interpretation n left tree risen.set risen.whole risen.solved var v at_whole in
          let early = risen.no_later there.0 there.2 in
          let occurs : OccursAt tree k var = record { node = node; stands = place; among = (solves.binds var).0 (IsSome-from_value (binding row var) w at_row) } in
          let occurs_p = connected.up k p there.0 var node place hangs occurs there.1 (λ within. let late = within_low tree root parents k there.0 within in omega (arith, late, early, first)) in
          let same = agrees var occurs occurs_p in
          let kept = risen.over var w (same ∙ at_row) in
          cc

    rise_with : HasRise k row
    rise_with =
        let both = merge_of_agreeing interpretation tells n [] risen.whole row risen.solved.solves.width solves.width rise_agree in
        let union = solution-union interpretation n left tells (patterns_of tree risen.set) node.patterns risen.whole row both.row risen.solved.solves solves both.width both.union in
        record {
          set = with_node risen.set k;
          whole = both.row;
          solved = grown_solution interpretation n left tree k node risen.set both.row place risen.solved.rooted (held_parent risen.set node.parent p hangs risen.held) union;
          over = both.union.right;
          held = with_itself risen.set k;
          no_later = λ j held. elim (with_cases risen.set k j held) as (λ _. j ≤ k) [ inl is ↦ omega (arith, is) | inr old ↦ (let early = risen.no_later j old in omega (arith, early, first)) ];
        }

  filled_above : (k p : ℕ) (node : TreeNode) → slice_get tree k ≡ Some node → node.parent ≡ Some p → IsFilledBelow k → IsFilledBelow p
  filled_above k p node place hangs filled = record {
    node = filled.node;
    pattern = filled.pattern;
    triple = filled.triple;
    stands = filled.stands;
    among = filled.among;
    within = within_parent tree root parents k p filled.node node place hangs filled.within;
  }

  -- from any node up to the root
  pub rise : (bound k : ℕ) → k < bound → (node : TreeNode) → slice_get tree k ≡ Some node → (row : Row V) → IsSolutionOf interpretation n left node.patterns row → IsFilledBelow k → HasRise k row
  rise zero k low node place row solves filled = absurd (omega (arith, low))
  rise (suc bound) zero low node place row solves filled = record {
    set = root_alone;
    whole = row;
    solved = root_solved interpretation n left tree root node place row solves;
    over = Extends-refl row;
    held = refl;
    no_later = λ j held. (let is = eqb-true j 0 held in omega (arith, is));
  }
  rise (suc bound) (suc k) low node place row solves filled =
      let up = parents.before (suc k) node (omega arith) place in
      let p = up.0 in
      let first = up.2 in
      let there = node_low tree (suc k) node place in
      let above = node_there tree p (omega (arith, first, there)) in
      let own = parent_row (suc k) p node above.0 place up.1 above.1 row solves filled in
      rise_with (suc k) p node place up.1 first row own.other solves own.agrees
      (rise bound p (omega (arith, low, first)) above.0 above.1 own.other own.solves (filled_above (suc k) p node place up.1 filled))
