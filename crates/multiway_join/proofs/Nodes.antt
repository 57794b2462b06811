-- A partial solution of a tree, and one node more: its set grows by a node whose parent it has, where a row solves the
-- triple patterns of that node too.
use Rattle.std.proofs.Common.{◌≡◌, ◌≢◌, ◌⊎◌, ℕ, ◌++◌, inl, inr, Bool, true, false, List, get_or, Contains, Option, Some, None, IsTrue, refl, sym, ◌∙◌, ap, subst, eq-eqb, eqb-true}
use Rattle.std.specs.Prelude.{slice_get, ◌==◌, ◌||◌}
use Rattle.std.proofs.lemmas.Bool.{cases_Bool, or_left, or_right}
use Rattle.std.proofs.lemmas.List.Elements.{All-contains, Contains-get_or, Contains-append_left, Contains-append_right, Contains-append_cases}
use Rattle.alg_model.specs.declared.pattern.TriplePat.{TriplePat}
use Rattle.alg_model.specs.Row.{Row}
use Rattle.alg_model.specs.Pattern.{triple_vars}
use Rattle.alg_model.specs.Eval.{Interpretation}
use Rattle.alg_model.proofs.Lists.{Contains-flat_map, source-flat_map}
use Rattle.pattern_tree.specs.Solution.{Family, IsSolutionOf, IsPartialSolution}
use Rattle.pattern_tree.specs.Standing.{StandsAt}
use Rattle.pattern_tree.specs.Tree.{TreeNode, IsRooted, patterns_of}
use Rattle.pattern_tree.proofs.RootedSets.{HasSame}
use Rattle.pattern_tree.proofs.Standing.{patterns_of-stands, stands-patterns_of}
use Rattle.pattern_tree.proofs.Unions.{IsMade}
use Rattle.multiway_join.specs.FlatRows.{with_node, has_parent}

-- ---- numbers that differ

pub differ : (j k : ℕ) → j ≢ k → (j == k) ≡ false
differ j k other = elim (cases_Bool (j == k)) as (λ _. (j == k) ≡ false) [ inl is ↦ absurd (other (eqb-true j k is)) | inr is ↦ is ]

-- ---- a set with one node more

module _ (set : ℕ → Bool) (k : ℕ) where
  pub with_itself : with_node set k k ≡ true
  with_itself = or_left (k == k) (set k) (eq-eqb k k refl)

  pub with_old : (j : ℕ) → set j ≡ true → with_node set k j ≡ true
  with_old j held = or_right (j == k) (set j) held

  pub with_cases : (j : ℕ) → with_node set k j ≡ true → (j ≡ k) ⊎ (set j ≡ true)
  with_cases j held = elim (cases_Bool (j == k)) as (λ _. (j ≡ k) ⊎ (set j ≡ true)) [
    | inl is ↦ inl (eqb-true j k is)
    | inr is ↦ inr (sym (ap (λ b. b || set j) is) ∙ held)
  ]

  pub with_other : (j : ℕ) → j ≢ k → with_node set k j ≡ set j
  with_other j other = ap (λ b. b || set j) (differ j k other)

-- a node that has a parent of the set
pub parent_held : (set : ℕ → Bool) (parent : Option ℕ) → has_parent set parent ≡ true → (p : ℕ) × (parent ≡ Some p) × (set p ≡ true)
parent_held set None held = absurd (cc)
parent_held set (Some p) held = (p, refl, held)

pub held_parent : (set : ℕ → Bool) (parent : Option ℕ) (p : ℕ) → parent ≡ Some p → set p ≡ true → has_parent set parent ≡ true
held_parent set parent p is held = ap (has_parent set) is ∙ held

module _ (tree : List TreeNode) (k : ℕ) (node : TreeNode) (place : slice_get tree k ≡ Some node) where
  -- what stands at the node
  pub stands_here : (p : TriplePat) → Contains node.patterns p → StandsAt tree k p
  stands_here p at = record { node = node; stands = place; among = at }

  pub here_stands : (p : TriplePat) → StandsAt tree k p → Contains node.patterns p
  here_stands p s = (let is = s.stands in let same : s.node ≡ node = cc in subst (λ node. Contains node.patterns p) same s.among)

  -- the triple patterns of a set with the node are those of the set and those of the node
  pub with_patterns : (set : ℕ → Bool) → HasSame (patterns_of tree set ++ node.patterns) (patterns_of tree (with_node set k))
  with_patterns set = record {
    to = λ p at. elim (Contains-append_cases (patterns_of tree set) node.patterns p at) as (λ _. Contains (patterns_of tree (with_node set k)) p) [
      | inl old ↦ let s = patterns_of-stands tree set p old in stands-patterns_of tree (with_node set k) s.0 p s.1 (with_old set k s.0 s.2)
      | inr new ↦ stands-patterns_of tree (with_node set k) k p (stands_here p new) (with_itself set k)
    ];
    from = λ p at.
        let s = patterns_of-stands tree (with_node set k) p at in
        elim (with_cases set k s.0 s.2) as (λ _. Contains (patterns_of tree set ++ node.patterns) p) [
          | inl is ↦ Contains-append_right (patterns_of tree set) node.patterns p (here_stands p (subst (λ k. StandsAt tree k p) is s.1))
          | inr held ↦ Contains-append_left (patterns_of tree set) node.patterns p (stands-patterns_of tree set s.0 p s.1 held)
        ];
  }

  -- a rooted set stays rooted with it, where it has the node's parent
  pub with_rooted : (set : ℕ → Bool) → IsRooted tree set → has_parent set node.parent ≡ true → IsRooted tree (with_node set k)
  with_rooted set rooted hangs = record {
    root = with_old set k 0 rooted.root;
    parents = λ j parent other at has held. elim (with_cases set k j held) as (λ _. IsTrue (with_node set k parent)) [
      | inl is ↦
          let at_k : slice_get tree k ≡ Some other = subst (λ j. slice_get tree j ≡ Some other) is at in
          let same : node ≡ other = cc in
          let held_p : has_parent set (Some parent) ≡ true = subst (λ o. has_parent set o ≡ true) (ap (λ node. node.parent) same ∙ has) hangs in
          with_old set k parent held_p
      | inr old ↦ with_old set k parent (rooted.parents j parent other at has old)
    ];
  }

module _ {V X : Type 0} (interpretation : Interpretation V X) (n : ℕ) (family : Family X) where
  -- lists with the same triple patterns have the same solutions
  pub same_solutions : (xs ys : List TriplePat) (row : Row V) → HasSame xs ys → IsSolutionOf interpretation n family xs row → IsSolutionOf interpretation n family ys row
  same_solutions xs ys row same is = record {
    width = is.width;
    binds = λ var. (
      λ some. (let from = source-flat_map triple_vars xs var ((is.binds var).0 some) in Contains-flat_map triple_vars ys from.0 var (same.to from.0 from.1) from.2),
      λ at. (let from = source-flat_map triple_vars ys var at in (is.binds var).1 (Contains-flat_map triple_vars xs from.0 var (same.from from.0 from.1) from.2)),
    );
    made = λ k d low. All-contains (IsMade interpretation n family row) xs (get_or ys k d) is.made (same.from (get_or ys k d) (Contains-get_or ys k d low));
  }

  -- so the solution grows by the node
  pub grown_solution : (tree : List TreeNode) (k : ℕ) (node : TreeNode) (set : ℕ → Bool) (row : Row V) → slice_get tree k ≡ Some node → IsRooted tree set → has_parent set node.parent ≡ true →
      IsSolutionOf interpretation n family (patterns_of tree set ++ node.patterns) row → IsPartialSolution interpretation n tree family (with_node set k) row
  grown_solution tree k node set row place rooted hangs solves = record {
    rooted = with_rooted tree k node place set rooted hangs;
    solves = same_solutions (patterns_of tree set ++ node.patterns) (patterns_of tree (with_node set k)) row (with_patterns tree k node place set) solves;
  }
