-- The members that are left, as the code keeps them: a flag for each pattern, and a set of variables.
use Rattle.std.specs.Prelude.{ℕ, ◌<◌, List, IsTrue, false, slice_index_or}
use Rattle.join_graph.specs.declared.left.Left.{Left}
use Rattle.join_graph.specs.declared.steps.Step.TheVariants.{Pattern, Variable}
use Rattle.join_graph.specs.Sets.{HasTwo}
use Rattle.join_graph.specs.Members.{Member, HasVariable}
use Rattle.join_graph.specs.Core.{neighbours_in}

-- the member is left
abbrev pub IsKept : Left → Member → Type 0
IsKept left (Pattern place) = IsTrue (slice_index_or left.patterns place false)
IsKept left (Variable variable) = HasVariable left.variables variable

-- where the member is left, so are two of its neighbours
abbrev pub HasTwoIfKept : List ℕ → Left → Member → Type 0
HasTwoIfKept sets left member = IsKept left member → HasTwo (neighbours_in sets (IsKept left) member)

-- a place below the number of patterns, or a variable that fits a set
abbrev pub IsInRange : ℕ → Member → Type 0
IsInRange patterns (Pattern place) = place < patterns
IsInRange patterns (Variable variable) = variable < 64
