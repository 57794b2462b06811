-- Values of one kind as names of values of another, as the places of terms in a table name their texts. One value may have
-- several names.
use Rattle.std.specs.Prelude.{◌≡◌, ℕ, List, map, Contains}
use Rattle.std.specs.Option.{option_map}
use Rattle.alg_model.specs.declared.pattern.TriplePat.{TriplePat}
use Rattle.alg_model.specs.Row.{Row}
use Rattle.alg_model.specs.Eval.{Interpretation}
use Rattle.pattern_tree.specs.Consistent.{TakesValue}
use Rattle.pattern_tree.specs.Solution.{Family}
use Rattle.pattern_tree.specs.Standing.{StandsAt}
use Rattle.pattern_tree.specs.Tree.{TreeNode}

-- A triple of names names a triple: its three names are names of the three values there. A name stands for the terms for
-- which its value stands.
pub record IsNaming {W Y V X : Type 0} (names : Interpretation W Y) (interpretation : Interpretation V X) (value : W → V) (triple : Y → X) : Type 0 where
  pub subject : (y : Y) → interpretation.subject (triple y) ≡ value (names.subject y)
  pub predicate : (y : Y) → interpretation.predicate (triple y) ≡ value (names.predicate y)
  pub object : (y : Y) → interpretation.object (triple y) ≡ value (names.object y)
  pub stands_for : (name : W) (text : List ℕ) → names.stands_for name text ≡ interpretation.stands_for (value name) text

-- the row that a row of names names
abbrev pub named_row : {W V : Type 0} → (W → V) → Row W → Row V
named_row value row = map (option_map value) row

-- the family that a family of triples of names names
abbrev pub named_family : {Y X : Type 0} → (Y → X) → Family Y → Family X
named_family triple family pattern = map triple (family pattern)

-- no two names that one variable takes in the lists of the tree's triple patterns name the same value
pub record TellsApart {W Y V : Type 0} (names : Interpretation W Y) (value : W → V) (tree : List TreeNode) (family : Family Y) : Type 0 where
  pub one : (k j : ℕ) (pattern other : TriplePat) (y z : Y) (var : ℕ) (v w : W) → StandsAt tree k pattern → StandsAt tree j other →
      Contains (family pattern) y → Contains (family other) z → TakesValue names pattern y var v → TakesValue names other z var w →
      value v ≡ value w → v ≡ w
