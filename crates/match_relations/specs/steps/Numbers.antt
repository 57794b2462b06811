-- Carries proofs only: the triple patterns of a tree by number, and how far the numbers go.
use Rattle.std.specs.Prelude.{ℕ, ◌+◌, ◌==◌, max, fold, find, List, Option}
use Rattle.std.specs.List.{flat_map}
use Rattle.alg_model.specs.declared.pattern.Place.{Place}
use Rattle.alg_model.specs.declared.pattern.Place.TheVariants as places
use Rattle.alg_model.specs.declared.pattern.TriplePat.{TriplePat}
use Rattle.pattern_tree.specs.Tree.{TreeNode}
use Rattle.match_relations.specs.declared.numbered.Extent.{Extent}

-- the triple patterns of a tree, node by node
abbrev pub patterns_in : List TreeNode → List TriplePat
patterns_in tree = flat_map (λ node. node.patterns) tree

-- the first with a number
abbrev pub with_number : ℕ → List TriplePat → Option TriplePat
with_number number patterns = find (λ p. p.number == number) patterns

-- one more than the number of a place's variable, and 0 where there is none
abbrev pub end_of : Place → ℕ
end_of (places.Var var) = var.0 + 1
end_of (places.Term text) = 0

-- an extent, as wide as a triple pattern needs
abbrev pub widened : Extent → TriplePat → Extent
widened e p = record {
  patterns = max e.patterns p.number;
  vars = max (max (max e.vars (end_of p.subject)) (end_of p.predicate)) (end_of p.object);
}

abbrev pub extent_of : List TriplePat → Extent
extent_of patterns = fold widened (record { patterns = 0; vars = 0 }) patterns
