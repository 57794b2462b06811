-- The limits of a query. They are this project's own, and no standard's.
use Rattle.std.specs.Prelude.{◌≡◌, ◌≢◌, ℕ, ◌<◌, ◌≤◌, map, length, All, AllPairs, IsUtf8}
use Rattle.std.specs.List.{range_with_len}
use Rattle.alg_model.specs.declared.query.Query.{Query}
use Rattle.alg_model.specs.Pattern.{Algebra, HasVarsBelow, algebra_of, triple_patterns, optional_parts}

-- at most so many variables
abbrev pub max_variables : ℕ
max_variables = 64

-- at most so many triple patterns
abbrev pub max_triple_patterns : ℕ
max_triple_patterns = 256

-- at most so many parts that are optional
abbrev pub max_optionals : ℕ
max_optionals = 63

-- at most so many groups
abbrev pub max_groups : ℕ
max_groups = 256

-- at most so many groups that are open at once
abbrev pub max_open_groups : ℕ
max_open_groups = 32

-- a pattern over n variables keeps the limits, and its triple patterns are numbered from 1 in the order of the text
pub record PatternKeepsLimits (n : ℕ) (pattern : Algebra) : Type 0 where
  pub vars_below : HasVarsBelow n pattern
  pub few_optional : optional_parts pattern ≤ max_optionals
  pub few_triples : length (triple_patterns pattern) ≤ max_triple_patterns
  pub numbered : map (λ triple. triple.number) (triple_patterns pattern) ≡ range_with_len 1 (length (triple_patterns pattern))

-- a query keeps the limits: its names are few, are texts and differ, its pattern is over these names and keeps the
-- limits, and its columns are among these names and differ
pub record KeepsLimits (query : Query) : Type 0 where
  pub few_names : length query.names ≤ max_variables
  pub names_are_text : All IsUtf8 query.names
  pub names_differ : AllPairs (λ a b. a ≢ b) query.names
  pub pattern : PatternKeepsLimits (length query.names) (algebra_of query.pattern)
  pub columns_below : All (λ column. column.0 < length query.names) query.columns
  pub columns_differ : AllPairs (λ a b. a ≢ b) query.columns
