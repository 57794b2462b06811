-- The trees for which relations are prepared: those of accepted patterns.
use Rattle.std.specs.Prelude.{◌⊎◌, ℕ, List}
use Rattle.alg_model.specs.declared.pattern.TriplePat.{TriplePat}
use Rattle.alg_model.specs.Pattern.{IsVar}
use Rattle.pattern_tree.specs.Standing.{StandsAt}
use Rattle.pattern_tree.specs.Tree.{TreeNode}
use Rattle.well_designed.specs.Refusals.{HasThreeVariables}

-- no triple pattern of the tree has three variables, and no variable stands at a predicate place and at a node place
pub record IsAcceptedTree (tree : List TreeNode) : Type 0 where
  pub no_three_places : (k : ℕ) (pattern : TriplePat) → StandsAt tree k pattern → ¬ HasThreeVariables pattern
  pub no_cross_place : (k j : ℕ) (pattern other : TriplePat) (var : ℕ) → StandsAt tree k pattern → StandsAt tree j other →
      IsVar pattern.predicate var → ¬ (IsVar other.subject var ⊎ IsVar other.object var)
