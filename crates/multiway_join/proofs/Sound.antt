-- Each flat row of a tree is the row of a partial solution.
use Rattle.std.proofs.Common.{◌≡◌, ℕ, suc, ◌+◌, ◌<◌, ◌++◌, Bool, true, false, if◌then◌else◌, List, [], ◌∷◌, flat_map, Contains, Option, Some, None, refl, subst, arith, eqb-true}
use Rattle.std.specs.Prelude.{slice_get, ◌==◌}
use Rattle.std.proofs.lemmas.List.Elements.{All-nil}
use Rattle.bm_term.proofs.Elements.{Contains-nil, Contains-single}
use Rattle.alg_model.specs.declared.pattern.TriplePat.{TriplePat}
use Rattle.alg_model.specs.Row.{Row, unbound}
use Rattle.alg_model.specs.Pattern.{triple_vars}
use Rattle.alg_model.specs.Eval.{Interpretation}
use Rattle.alg_model.specs.Solution.{TellsValues}
use Rattle.alg_model.proofs.Cells.{binding-unbound}
use Rattle.alg_model.proofs.Lists.{source-flat_map}
use Rattle.alg_model.proofs.Width.{width-unbound}
use Rattle.pattern_tree.specs.Solution.{Family, IsSolutionOf, IsPartialSolution, IsPartialRow}
use Rattle.pattern_tree.specs.Standing.{StandsAt}
use Rattle.pattern_tree.specs.Tree.{TreeNode, IsRooted, patterns_of}
use Rattle.pattern_tree.proofs.RootedSets.{HasSame}
use Rattle.pattern_tree.proofs.Standing.{patterns_of-stands, stands-patterns_of}
use Rattle.pattern_tree.proofs.Unions.{IsMade}
use Rattle.multiway_join.specs.FlatRows.{with_node, has_parent, ends, rows_from, flat_rows_of}
use Rattle.multiway_join.proofs.Ends.{VarsBelow, ends_sound}
use Rattle.multiway_join.proofs.Nodes.{stands_here, here_stands, same_solutions, grown_solution}

-- each variable of the tree is below n
abbrev pub TreeVarsBelow : ℕ → List TreeNode → Type 0
TreeVarsBelow n tree = (k : ℕ) (pattern : TriplePat) (var : ℕ) → StandsAt tree k pattern → Contains (triple_vars pattern) var → var < n

-- the nodes are those of the tree from number k on
abbrev pub AreFrom : List TreeNode → ℕ → List TreeNode → Type 0
AreFrom tree k nodes = (j : ℕ) (node : TreeNode) → slice_get nodes j ≡ Some node → slice_get tree (j + k) ≡ Some node

pub first_place : (tree : List TreeNode) (k : ℕ) (node : TreeNode) (nodes : List TreeNode) → AreFrom tree k (node ∷ nodes) → slice_get tree k ≡ Some node
first_place tree k node nodes from = let e : 0 + k ≡ k = omega arith in subst (λ i. slice_get tree i ≡ Some node) e (from 0 node refl)

pub rest_from : (tree : List TreeNode) (k : ℕ) (node : TreeNode) (nodes : List TreeNode) → AreFrom tree k (node ∷ nodes) → AreFrom tree (suc k) nodes
rest_from tree k node nodes from j other is = let e : suc j + k ≡ j + suc k = omega arith in subst (λ i. slice_get tree i ≡ Some other) e (from (suc j) other is)

-- the set of the root alone
abbrev pub root_alone : ℕ → Bool
root_alone k = k == 0

module _ {V X : Type 0} (interpretation : Interpretation V X) (n : ℕ) (family : Family X) where
  -- what follows an end of a node
  abbrev pub after_end : List TreeNode → ℕ → (ℕ → Bool) → Row V → Option (Row V) → List (Row V)
  after_end nodes k matched row end = elim end as (λ _. List (Row V)) [
    | Some longer ↦ rows_from interpretation n family nodes (suc k) (with_node matched k) longer
    | None ↦ rows_from interpretation n family nodes (suc k) matched row
  ]

  -- and of the root
  abbrev pub after_root : List TreeNode → Option (Row V) → List (Row V)
  after_root nodes end = elim end as (λ _. List (Row V)) [ Some row ↦ rows_from interpretation n family nodes 1 root_alone row | None ↦ [] ]

  -- the row that binds nothing solves no triple patterns
  pub nothing_solved : IsSolutionOf interpretation n family [] (unbound V n)
  nothing_solved = record {
    width = width-unbound V n;
    binds = λ k. (λ some. let none = binding-unbound V n k in absurd (cc), λ at. absurd (Contains-nil k at));
    made = All-nil (IsMade interpretation n family (unbound V n));
  }

module _ {V X : Type 0} (interpretation : Interpretation V X) (tells : TellsValues interpretation) (n : ℕ) (family : Family X) (tree : List TreeNode) (few : TreeVarsBelow n tree) where
  -- the variables of a node are below n
  pub node_below : (k : ℕ) (node : TreeNode) → slice_get tree k ≡ Some node → VarsBelow interpretation tells n family node.patterns
  node_below k node place p var at among = few k p var (stands_here tree k node place p at) among

  -- the rows from a partial solution are of partial solutions
  pub from_sound : (nodes : List TreeNode) (k : ℕ) (matched : ℕ → Bool) (row q : Row V) → AreFrom tree k nodes → IsPartialSolution interpretation n tree family matched row →
      Contains (rows_from interpretation n family nodes k matched row) q → IsPartialRow interpretation n tree family q
  from_sound [] k matched row q from is at = (matched, subst (IsPartialSolution interpretation n tree family matched) (Contains-single row q at) is)
  from_sound (node ∷ nodes) k matched row q from is at =
      let place = first_place tree k node nodes from in
      let rest = rest_from tree k node nodes from in
      let tried = flat_map (after_end interpretation n family nodes k matched row) (ends interpretation n family node.patterns row) in
      let skipped = rows_from interpretation n family nodes (suc k) matched row in
      elim (has_parent matched node.parent) as (λ b. has_parent matched node.parent ≡ b → Contains (if b then tried else skipped) q → IsPartialRow interpretation n tree family q) [
        | true ↦ λ hangs at.
            let source = source-flat_map (after_end interpretation n family nodes k matched row) (ends interpretation n family node.patterns row) q at in
            elim source.0 as (λ end. Contains (ends interpretation n family node.patterns row) end → Contains (after_end interpretation n family nodes k matched row end) q → IsPartialRow interpretation n tree family q) [
              | None ↦ λ _ at. from_sound nodes (suc k) matched row q rest is at
              | Some longer ↦ λ among at.
                  let solves = ends_sound interpretation tells n family (patterns_of tree matched) node.patterns row longer (node_below k node place) is.solves among in
                  from_sound nodes (suc k) (with_node matched k) longer q rest (grown_solution interpretation n family tree k node matched longer place is.rooted hangs solves.0) at
            ] source.1 source.2
        | false ↦ λ _ at. from_sound nodes (suc k) matched row q rest is at
      ] refl at

-- a tree has its root first, and no node above it
pub record HasRoot (tree : List TreeNode) : Type 0 where
  pub none : (node : TreeNode) → slice_get tree 0 ≡ Some node → node.parent ≡ None

module _ (root : TreeNode) (nodes : List TreeNode) where
  -- the root alone has the root's triple patterns
  pub root_patterns : HasSame ([] ++ root.patterns) (patterns_of (root ∷ nodes) root_alone)
  root_patterns = record {
    to = λ p at. stands-patterns_of (root ∷ nodes) root_alone 0 p (stands_here (root ∷ nodes) 0 root refl p at) refl;
    from = λ p at.
        let s = patterns_of-stands (root ∷ nodes) root_alone p at in
        here_stands (root ∷ nodes) 0 root refl p (subst (λ k. StandsAt (root ∷ nodes) k p) (eqb-true s.0 0 s.2) s.1);
  }

  pub root_rooted : HasRoot (root ∷ nodes) → IsRooted (root ∷ nodes) root_alone
  root_rooted has = record {
    root = refl;
    parents = λ k parent node at up held.
        let none = has.none node (subst (λ k. slice_get (root ∷ nodes) k ≡ Some node) (eqb-true k 0 held) at) in
        absurd (cc);
  }

  pub nodes_from : AreFrom (root ∷ nodes) 1 nodes
  nodes_from j node is = let e : suc j ≡ j + 1 = omega arith in subst (λ i. slice_get (root ∷ nodes) i ≡ Some node) e is

pub flat_sound : {V X : Type 0} (interpretation : Interpretation V X) (tells : TellsValues interpretation) (n : ℕ) (family : Family X) (tree : List TreeNode) (few : TreeVarsBelow n tree) → HasRoot tree →
    (q : Row V) → Contains (flat_rows_of interpretation n family tree) q → IsPartialRow interpretation n tree family q
flat_sound interpretation tells n family [] few has q at = absurd (Contains-nil q at)
flat_sound {V} interpretation tells n family (root ∷ nodes) few has q at =
    let source = source-flat_map (after_root interpretation n family nodes) (ends interpretation n family root.patterns (unbound V n)) q at in
    after source.0 source.1 source.2 where
      after : (end : Option (Row V)) → Contains (ends interpretation n family root.patterns (unbound V n)) end → Contains (after_root interpretation n family nodes end) q → IsPartialRow interpretation n (root ∷ nodes) family q
      after None among at = absurd (Contains-nil q at)
      after (Some row) among at =
          let solves = ends_sound interpretation tells n family [] root.patterns (unbound V n) row (node_below interpretation tells n family (root ∷ nodes) few 0 root refl) (nothing_solved interpretation n family) among in
          from_sound interpretation tells n family (root ∷ nodes) few nodes 1 root_alone row q (nodes_from root nodes) (record {
            rooted = root_rooted root nodes has;
            solves = same_solutions interpretation n family ([] ++ root.patterns) (patterns_of (root ∷ nodes) root_alone) row (root_patterns root nodes) solves.0;
          }) at
