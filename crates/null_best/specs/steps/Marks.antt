-- Carries proofs only: marks of places, and which rows they stand at.
use Rattle.std.specs.Prelude.{◌≡◌, ◌↔◌, ◌⊎◌, ◌<◌, ◌≤◌, ℕ, Bool, true, false, List, [], ◌∷◌, if◌then◌else◌, length, slice_index_or}
use Rattle.null_best.specs.declared.groups.Group.{Group}
use Rattle.null_best.specs.steps.Cuts.{Improves}
use Rattle.null_best.specs.steps.Groups.{row_at, IsIn}

abbrev pub IsMarked : List Bool → ℕ → Type 0
IsMarked marks k = slice_index_or marks k false ≡ true

-- marks are added at just the places of a kind
pub record AddsMarks (P : ℕ → Type 0) (old new : List Bool) : Type 0 where
  pub len : length new ≡ length old
  pub marked : (k : ℕ) → IsMarked new k ↔ (IsMarked old k ⊎ P k)

-- all rows have as many cells, and no more than a word has bits
pub record HaveWidth (keys : List (List ℕ)) : Type 0 where
  pub same : (i j : ℕ) → i < length keys → j < length keys → length (row_at keys i) ≡ length (row_at keys j)
  pub few : (i : ℕ) → i < length keys → length (row_at keys i) ≤ 64

-- the front of a group, up to a place
abbrev pub front_of : Group → ℕ → Group
front_of group end = record group { end = end }

-- a group of a list, and an empty one past its end
abbrev pub group_at : List Group → ℕ → Group
group_at groups k = slice_index_or groups k (record { vars = 0; start = 0; end = 0 })

-- a row of one group extends the row at a place of another group, with more variables
pub record IsImprovedAcross (keys : List (List ℕ)) (large small : Group) (k : ℕ) : Type 0 where
  pub by : ℕ
  pub from : IsIn large by
  pub place : IsIn small k
  pub improves : Improves (row_at keys by) (row_at keys k)

-- a row of a group extends the row at a place
pub record IsImprovedBy (keys : List (List ℕ)) (large : Group) (k : ℕ) : Type 0 where
  pub by : ℕ
  pub from : IsIn large by
  pub exists : k < length keys
  pub improves : Improves (row_at keys by) (row_at keys k)

-- a row extends the row at a place
pub record IsImproved (keys : List (List ℕ)) (k : ℕ) : Type 0 where
  pub by : ℕ
  pub listed : by < length keys
  pub exists : k < length keys
  pub improves : Improves (row_at keys by) (row_at keys k)

-- a row of a group extends the row at a place of one of the first groups
pub record IsImprovedBelow (keys : List (List ℕ)) (large : Group) (groups : List Group) (n k : ℕ) : Type 0 where
  pub at : ℕ
  pub below : at < n
  pub improved : IsImprovedAcross keys large (group_at groups at) k

-- a row of one of the first groups extends the row at a place
pub record IsImprovedFrom (keys : List (List ℕ)) (groups : List Group) (n k : ℕ) : Type 0 where
  pub at : ℕ
  pub below : at < n
  pub improved : IsImprovedBy keys (group_at groups at) k

-- the items that have no mark
abbrev pub unmarked : {X : Type 0} → List X → List Bool → List X
unmarked [] marks = []
unmarked (x ∷ xs) [] = x ∷ unmarked xs []
unmarked (x ∷ xs) (mark ∷ marks) = if mark then unmarked xs marks else x ∷ unmarked xs marks
