-- The core of a list of patterns (in graph theory the 2-core of its join graph), and forests, whose core is empty.
use Rattle.std.specs.Prelude.{◌≡◌, ℕ, ◌<◌, Bool, IsTrue, List, length, slice_get}
use Rattle.join_graph.specs.Sets.{HasTwo}
use Rattle.join_graph.specs.Members.{Member, IsNeighbour}

-- the neighbours of a member that are in a set
abbrev pub neighbours_in : List ℕ → (Member → Type 0) → Member → Member → Type 0
neighbours_in sets set member neighbour = IsNeighbour sets member neighbour × set neighbour

-- each member of the set has at least two neighbours in the set; nothing but a member of the list has a neighbour
abbrev pub EachHasTwoNeighbours : List ℕ → (Member → Type 0) → Type 0
EachHasTwoNeighbours sets set = (member : Member) → set member → HasTwo (neighbours_in sets set member)

-- the set of what passes a test
abbrev pub passing : (Member → Bool) → Member → Type 0
passing test member = IsTrue (test member)

-- a set is the core where it is the largest in which each member has at least two neighbours
pub record IsCore (sets : List ℕ) (core : Member → Type 0) : Type 0 where
  pub two_each : EachHasTwoNeighbours sets core
  pub largest : (test : Member → Bool) → EachHasTwoNeighbours sets (passing test) → (member : Member) → passing test member → core member

-- the core: the union of all sets in which each member has at least two neighbours
unfoldable pub core_of : List ℕ → Member → Type 0
core_of sets member = (test : Member → Bool) × EachHasTwoNeighbours sets (passing test) × passing test member

-- the core is empty
unfoldable pub IsForest : List ℕ → Type 0
IsForest sets = (member : Member) → ¬ core_of sets member

-- each pattern of the part stands in the whole, and different ones at different places
pub record IsPart (part whole : List ℕ) : Type 0 where
  pub place : ℕ → ℕ
  pub same : (p : ℕ) → p < length part → slice_get whole (place p) ≡ slice_get part p
  pub apart : (p q : ℕ) → p < length part → q < length part → place p ≡ place q → p ≡ q
