-- Removal: again and again a member goes that has at most one neighbour left.
use Rattle.std.specs.Prelude.{◌≡◌, ℕ, ◌<◌, ◌↔◌, ◌⊎◌, Some, List, take, slice_get, Contains, EachIndex}
use Rattle.std.specs.List.{HoldsAt}
use Rattle.join_graph.specs.declared.steps.Step.TheVariants.{Pattern, Variable}
use Rattle.join_graph.specs.Sets.{HasAtMostOne}
use Rattle.join_graph.specs.Members.{Member, IsMember, IsNeighbour}
use Rattle.join_graph.specs.Core.{neighbours_in, EachHasTwoNeighbours, core_of}

-- the members that were removed, in their order, and how many were not
pub record Removal : Type 0 where
  pub steps : List Member
  pub core : ℕ

-- a member that was not removed
abbrev pub IsLeft : List ℕ → List Member → Member → Type 0
IsLeft sets steps member = IsMember sets member × (¬ Contains steps member)

-- of the members left, one that has at most one neighbour left
abbrev pub IsLeaf : List ℕ → (Member → Type 0) → Member → Type 0
IsLeaf sets left member = left member × HasAtMostOne (neighbours_in sets left member)

-- the leaf to remove next: the first pattern, and where no pattern is a leaf, the least variable
abbrev pub IsNext : List ℕ → (Member → Type 0) → Member → Type 0
IsNext sets left (Pattern place) = IsLeaf sets left (Pattern place)
    × ((p : ℕ) → p < place → ¬ IsLeaf sets left (Pattern p))
IsNext sets left (Variable variable) = IsLeaf sets left (Variable variable)
    × ((p : ℕ) → ¬ IsLeaf sets left (Pattern p))
    × ((v : ℕ) → v < variable → ¬ IsLeaf sets left (Variable v))

-- the steps remove leaves, in any order, until each member left has at least two neighbours left
pub record IsRemoval (sets : List ℕ) (steps : List Member) : Type 0 where
  pub leaves : EachIndex steps (λ i. HoldsAt (IsLeaf sets (IsLeft sets (take i steps))) steps i)
  pub ended : EachHasTwoNeighbours sets (IsLeft sets steps)

-- the steps remove at each moment the leaf that is next
pub record IsRemovalOrder (sets : List ℕ) (steps : List Member) : Type 0 where
  pub next : EachIndex steps (λ i. HoldsAt (IsNext sets (IsLeft sets (take i steps))) steps i)
  pub ended : EachHasTwoNeighbours sets (IsLeft sets steps)

-- what was not removed is the core
abbrev pub LeavesCore : List ℕ → List Member → Type 0
LeavesCore sets steps = (member : Member) → IsLeft sets steps member ↔ core_of sets member

-- every member was removed
abbrev pub RemovesAll : List ℕ → List Member → Type 0
RemovesAll sets steps = (member : Member) → IsMember sets member → Contains steps member

-- a step removes the first member while the second is left
pub record GoesBefore (sets : List ℕ) (steps : List Member) (first second : Member) : Type 0 where
  pub at : ℕ
  pub step : slice_get steps at ≡ Some first
  pub left : IsLeft sets (take at steps) second

-- of any two neighbours one is removed while the other is left
abbrev pub PartsNeighbours : List ℕ → List Member → Type 0
PartsNeighbours sets steps =
    (m n : Member) → IsNeighbour sets m n → GoesBefore sets steps m n ⊎ GoesBefore sets steps n m
