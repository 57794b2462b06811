-- The scene of a pattern: its triple patterns in the order of the text, and the nodes of its tree. How items stand for
-- triples may differ from one triple pattern to the next, so each has its own reading.
use Rattle.std.specs.Prelude.{◌≡◌, ℕ, suc, ◌+◌, List, [], ◌∷◌, ◌++◌, map, length, Option, Some, None, slice_index_or}
use Rattle.alg_model.specs.declared.pattern.Place.{Place}
use Rattle.alg_model.specs.declared.pattern.Place.TheVariants as places
use Rattle.alg_model.specs.declared.pattern.TriplePat.{TriplePat}
use Rattle.alg_model.specs.Eval.{Interpretation}
use Rattle.alg_model.specs.Pattern.{Algebra, Bgp, Join, LeftJoin, triple_patterns}
use Rattle.pattern_tree.specs.Solution.{Family}
use Rattle.pattern_tree.specs.Tree.{moved_parent, nodes_below, tree_of}
use Rattle.pruning_laws.specs.Scene.{Column, Scene}

-- a place that is a variable is a column
abbrev pub place_columns : {V Y : Type 0} → Place → (Y → V) → List (Column V Y)
place_columns (places.Var var) value = record { variable = var.0; value = value } ∷ []
place_columns (places.Term text) value = []

abbrev pub columns_of : {V Y : Type 0} → Interpretation V Y → TriplePat → List (Column V Y)
columns_of reading pattern =
    place_columns pattern.subject reading.subject ++ place_columns pattern.predicate reading.predicate ++ place_columns pattern.object reading.object

-- those of some triple patterns, from a place in the text on
abbrev pub columns_from : {V Y : Type 0} → (ℕ → Interpretation V Y) → ℕ → List TriplePat → List (List (Column V Y))
columns_from readings p [] = []
columns_from readings p (pattern ∷ patterns) = columns_of (readings p) pattern ∷ columns_from readings (suc p) patterns

-- the node of each triple pattern, in the order of the text
abbrev pub nodes_in : Algebra → List ℕ
nodes_in (Bgp patterns) = map (λ pattern. 0) patterns
nodes_in (Join left right) = nodes_in left ++ map (moved_parent (length (nodes_below left))) (nodes_in right)
nodes_in (LeftJoin left right) = nodes_in left ++ map (λ k. suc (k + length (nodes_below left))) (nodes_in right)

-- the number of a parent, and 0 where there is none
abbrev pub number_of : Option ℕ → ℕ
number_of None = 0
number_of (Some parent) = parent

abbrev pub scene_of : {V Y : Type 0} → (ℕ → Interpretation V Y) → Algebra → Scene V Y
scene_of readings pattern = record {
  patterns = columns_from readings 0 (triple_patterns pattern);
  nodes = nodes_in pattern;
  parents = map (λ node. number_of node.parent) (tree_of pattern);
}

-- each reading reads an item as the triple that it stands for
pub record ReadsAs {V X Y : Type 0} (interpretation : Interpretation V X) (readings : ℕ → Interpretation V Y) (triple : ℕ → Y → X) : Type 0 where
  pub subject : (p : ℕ) (y : Y) → (readings p).subject y ≡ interpretation.subject (triple p y)
  pub predicate : (p : ℕ) (y : Y) → (readings p).predicate y ≡ interpretation.predicate (triple p y)
  pub object : (p : ℕ) (y : Y) → (readings p).object y ≡ interpretation.object (triple p y)

-- the lists of a family, in the order of the text
abbrev pub lists_of : {X : Type 0} → Algebra → Family X → ℕ → List X
lists_of pattern family p = slice_index_or (map family (triple_patterns pattern)) p []
