-- What pruning asks of a tree, besides that it is the tree of a pattern.
use Rattle.std.specs.Prelude.{◌⊎◌, ℕ, List}
use Rattle.alg_model.specs.declared.pattern.TriplePat.{TriplePat}
use Rattle.alg_model.specs.Pattern.{IsVar}
use Rattle.pattern_tree.specs.Standing.{StandsAt}
use Rattle.pattern_tree.specs.Tree.{TreeNode}

-- no variable of the tree stands at a predicate place and at a node place
abbrev pub HasNoCrossPlace : List TreeNode → Type 0
HasNoCrossPlace tree = (k j : ℕ) (pattern other : TriplePat) (var : ℕ) → StandsAt tree k pattern → StandsAt tree j other →
    IsVar pattern.predicate var → ¬ (IsVar other.subject var ⊎ IsVar other.object var)
