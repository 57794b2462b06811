-- Chains of neighbours, and connected lists of patterns.
use Rattle.std.specs.Prelude.{ℕ, List}
use Rattle.join_graph.specs.declared.steps.Step.TheVariants.{Pattern}
use Rattle.join_graph.specs.Members.{Member, PatternHas, IsNeighbour}

-- a chain of neighbours joins the members
pub data IsJoined (sets : List ℕ) : Member → Member → Type 0 where
  here : {m : Member} → IsJoined sets m m
  next : {m n end : Member} → IsNeighbour sets m n → IsJoined sets n end → IsJoined sets m end

-- a chain of neighbours joins any two patterns that have a variable
unfoldable pub IsConnected : List ℕ → Type 0
IsConnected sets = (p q v w : ℕ) → PatternHas sets p v → PatternHas sets q w → IsJoined sets (Pattern p) (Pattern q)
