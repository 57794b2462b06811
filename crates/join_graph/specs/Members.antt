-- The join graph of a list of patterns. Each pattern is given as its set of variables, a number whose bit v says
-- whether variable v is in it. Patterns and variables are the members of the graph.
use Rattle.std.specs.Prelude.{◌≡◌, ℕ, ◌<◌, List, length, slice_index}
use Rattle.std.specs.Int.{bit_at}
use Rattle.join_graph.specs.declared.steps.Step.{Step}
use Rattle.join_graph.specs.declared.steps.Step.TheVariants.{Pattern, Variable}

-- a pattern by its place in the list, or a variable by its number
abbrev pub Member : Type 0
Member = Step

-- the variable is in the set
abbrev pub HasVariable : ℕ → ℕ → Type 0
HasVariable set variable = bit_at set variable ≡ 1

-- the pattern at a place has the variable; past the end of the list stands the empty set
abbrev pub PatternHas : List ℕ → ℕ → ℕ → Type 0
PatternHas sets place variable = HasVariable (slice_index sets place) variable

-- the variable occurs in some pattern
abbrev pub OccursIn : List ℕ → ℕ → Type 0
OccursIn sets variable = (place : ℕ) × PatternHas sets place variable

-- the members are all patterns, and the variables that occur in some pattern
abbrev pub IsMember : List ℕ → Member → Type 0
IsMember sets (Pattern place) = place < length sets
IsMember sets (Variable variable) = OccursIn sets variable

-- a pattern and a variable are neighbours where the pattern has the variable
abbrev pub IsNeighbour : List ℕ → Member → Member → Type 0
IsNeighbour sets (Pattern place) (Variable variable) = PatternHas sets place variable
IsNeighbour sets (Variable variable) (Pattern place) = PatternHas sets place variable
IsNeighbour sets (Pattern place) (Pattern other) = ⊥
IsNeighbour sets (Variable variable) (Variable other) = ⊥
