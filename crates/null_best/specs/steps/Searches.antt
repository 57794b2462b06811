-- Carries proofs only: what a search in a group finds, and the window in which it goes on.
use Rattle.std.specs.Prelude.{◌≡◌, ◌<◌, ◌≤◌, ℕ, List, Result, MatchResult}
use Rattle.null_best.specs.declared.groups.Group.{Group}
use Rattle.null_best.specs.steps.Groups.{row_at, IsIn}

-- the place of a group at which just these cells are
pub record Matches (keys : List (List ℕ)) (group : Group) (cells : List ℕ) (k : ℕ) : Type 0 where
  pub place : IsIn group k
  pub cells_are : row_at keys k ≡ cells

-- there is no such place
pub record IsMissing (keys : List (List ℕ)) (group : Group) (cells : List ℕ) (near : ℕ) : Type 0 where
  pub from : group.start ≤ near
  pub none : (k : ℕ) → ¬ Matches keys group cells k

abbrev pub IsFound : List (List ℕ) → Group → List ℕ → Result ℕ ℕ → Type 0
IsFound keys group cells result = MatchResult result (Matches keys group cells) (IsMissing keys group cells)

-- if there is such a place, it is from low up to high
pub record IsWindow (keys : List (List ℕ)) (group : Group) (cells : List ℕ) (low high : ℕ) : Type 0 where
  pub from : group.start ≤ low
  pub to : high ≤ group.end
  pub ordered : low ≤ high
  pub holds : (k : ℕ) → Matches keys group cells k → (low ≤ k) × (k < high)
