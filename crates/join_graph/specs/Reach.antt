-- What chains reach from a set of variables, as the code follows them: pattern by pattern, in rounds.
use Rattle.std.specs.Prelude.{ℕ, List, ◌⊎◌}
use Rattle.join_graph.specs.declared.steps.Step.TheVariants.{Variable}
use Rattle.join_graph.specs.Sets.{Meets}
use Rattle.join_graph.specs.Members.{PatternHas}
use Rattle.join_graph.specs.Chains.{IsJoined}

-- the variables that a chain joins to one of a set
abbrev pub joined_to : List ℕ → (ℕ → Type 0) → ℕ → Type 0
joined_to sets set v = (w : ℕ) × set w × IsJoined sets (Variable w) (Variable v)

-- the variables of a set, and those of the patterns that have one of them
abbrev pub spread_from : List ℕ → (ℕ → Type 0) → ℕ → Type 0
spread_from sets set v = set v ⊎ ((p : ℕ) × Meets (PatternHas sets p) set × PatternHas sets p v)

-- each pattern that has a variable has one of a set
abbrev pub EachMeets : List ℕ → (ℕ → Type 0) → Type 0
EachMeets sets set = (p v : ℕ) → PatternHas sets p v → Meets (PatternHas sets p) set
