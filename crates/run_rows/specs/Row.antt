-- A row: the numbers of the columns that a line of a sparse matrix has, in order.
use Rattle.std.specs.Prelude.{ℕ, ◌+◌, ◌<◌, ◌≤◌, List, [], ◌∷◌, length, Option, Some, None, All, Contains}

-- the numbers ascend strictly, from low on, and stay below columns
abbrev pub AscendsWithin : ℕ → ℕ → List ℕ → Type 0
AscendsWithin low columns [] = Unit {0}
AscendsWithin low columns (x ∷ xs) = (low ≤ x) × (x < columns) × AscendsWithin (x + 1) columns xs

-- there is a number, and the numbers ascend strictly and stay below columns
pub record IsRow (columns : ℕ) (xs : List ℕ) : Type 0 where
  pub some : 0 < length xs
  pub ascends : AscendsWithin 0 columns xs

-- the least number of xs that is not below n, or none where all are
abbrev pub IsLeastFrom : ℕ → List ℕ → Option ℕ → Type 0
IsLeastFrom n xs None = All (λ x. x < n) xs
IsLeastFrom n xs (Some m) = (n ≤ m) × Contains xs m × All (λ x. n ≤ x → m ≤ x) xs
