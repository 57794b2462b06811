-- Carries proofs only: the groups of rows that bind the same variables.
use Rattle.std.specs.Prelude.{◌≡◌, ◌<◌, ◌≤◌, ℕ, List, [], All, Any, length, slice_index_or}
use Rattle.null_best.specs.declared.groups.Group.{Group}
use Rattle.null_best.specs.steps.Keys.{bound_set}

-- the cells of the row at a place
abbrev pub row_at : List (List ℕ) → ℕ → List ℕ
row_at keys k = slice_index_or keys k []

-- a group has the place
pub record IsIn (group : Group) (k : ℕ) : Type 0 where
  pub from : group.start ≤ k
  pub below : k < group.end

-- the rows from one place up to another bind the variables of a set
pub record BindSet (keys : List (List ℕ)) (set start end : ℕ) : Type 0 where
  pub within : end ≤ length keys
  pub same : (k : ℕ) → start ≤ k → k < end → bound_set (row_at keys k) ≡ set

pub record IsGroup (keys : List (List ℕ)) (group : Group) : Type 0 where
  pub ordered : group.start ≤ group.end
  pub binds : BindSet keys group.vars group.start group.end

pub record AreGroups (keys : List (List ℕ)) (groups : List Group) : Type 0 where
  pub each : All (IsGroup keys) groups
  pub covered : (k : ℕ) → k < length keys → Any (λ group. IsIn group k) groups

-- the same of the places below one
pub record AreGroupsBelow (keys : List (List ℕ)) (groups : List Group) (start : ℕ) : Type 0 where
  pub each : All (IsGroup keys) groups
  pub covered : (k : ℕ) → k < start → Any (λ group. IsIn group k) groups
