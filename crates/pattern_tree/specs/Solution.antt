-- Partial solutions of a pattern tree, and the maximal ones, after Letelier, Pérez, Pichler and Skritek: a partial
-- solution is that of a part of the tree that has the root.
use Rattle.std.specs.Prelude.{◌≡◌, ℕ, Bool, List, filter, is_some, length, All, Any}
use Rattle.alg_model.specs.declared.pattern.TriplePat.{TriplePat}
use Rattle.alg_model.specs.Row.{Row, Extends, BindsMore}
use Rattle.alg_model.specs.Pattern.{Bgp, vars_of}
use Rattle.alg_model.specs.Eval.{Interpretation, match_of}
use Rattle.alg_model.specs.Solution.{BindsJust, Makes}
use Rattle.pattern_tree.specs.Tree.{TreeNode, IsRooted, patterns_of}

-- a family gives each triple pattern a list of triples
abbrev pub Family : Type 0 → Type 0
Family X = TriplePat → List X

-- the family of all matches in a list of triples
abbrev pub all_matches : {V X : Type 0} → Interpretation V X → ℕ → List X → Family X
all_matches interpretation n triples pattern = filter (λ triple. is_some (match_of interpretation n pattern triple)) triples

-- the row binds just the variables of these triple patterns, and makes each one of the triples of its list
pub record IsSolutionOf {V X : Type 0} (interpretation : Interpretation V X) (n : ℕ) (family : Family X) (patterns : List TriplePat) (row : Row V) : Type 0 where
  pub width : length row ≡ n
  pub binds : BindsJust row (vars_of (Bgp patterns))
  pub made : All (λ pattern. Any (Makes interpretation row pattern) (family pattern)) patterns

-- a partial solution is a row with a set of nodes that is rooted, whose triple patterns the row solves
pub record IsPartialSolution {V X : Type 0} (interpretation : Interpretation V X) (n : ℕ) (tree : List TreeNode) (family : Family X) (set : ℕ → Bool) (row : Row V) : Type 0 where
  pub rooted : IsRooted tree set
  pub solves : IsSolutionOf interpretation n family (patterns_of tree set) row

-- the row of a partial solution
abbrev pub IsPartialRow : {V X : Type 0} → Interpretation V X → ℕ → List TreeNode → Family X → Row V → Type 0
IsPartialRow interpretation n tree family row = (set : ℕ → Bool) × IsPartialSolution interpretation n tree family set row

-- the row of a maximal one: no partial solution extends it and binds more
pub record IsMaximalRow {V X : Type 0} (interpretation : Interpretation V X) (n : ℕ) (tree : List TreeNode) (family : Family X) (row : Row V) : Type 0 where
  pub partial : IsPartialRow interpretation n tree family row
  pub maximal : (other : Row V) → IsPartialRow interpretation n tree family other → Extends other row → ¬ BindsMore other row
