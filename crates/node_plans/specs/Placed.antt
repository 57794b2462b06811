-- Triple patterns by their places in the text, and the edges from them to their variables.
use Rattle.std.specs.Prelude.{◌≡◌, ◌<◌, ◌≤◌, ℕ, List, map, Contains}
use Rattle.std.specs.List.{flat_map}
use Rattle.alg_model.specs.declared.pattern.TriplePat.{TriplePat}
use Rattle.alg_model.specs.Pattern.{triple_vars}
use Rattle.alg_model.specs.VarSet.{TripleFits}
use Rattle.join_graph.specs.declared.steps.Step.TheVariants.{Pattern, Variable}
use Rattle.join_graph.specs.Members.{Member}
use Rattle.pruning_laws.specs.Shown.{entry_of}

-- the triple pattern keeps the limits of a query
pub record IsPlaced (pattern : TriplePat) : Type 0 where
  pub fits : TripleFits pattern
  pub some : 0 < pattern.number
  pub low : pattern.number ≤ 256

-- the edges of a triple pattern, and of some
abbrev pub pattern_edges : TriplePat → List (Member × Member)
pattern_edges pattern = map (λ v. (Pattern (entry_of pattern), Variable v)) (triple_vars pattern)

abbrev pub edges_of : List TriplePat → List (Member × Member)
edges_of patterns = flat_map pattern_edges patterns

-- one of some triple patterns has this place in the text, and the variable
pub record HasEdge (patterns : List TriplePat) (p v : ℕ) : Type 0 where
  pub pattern : TriplePat
  pub among : Contains patterns pattern
  pub entry : entry_of pattern ≡ p
  pub has : Contains (triple_vars pattern) v
