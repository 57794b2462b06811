-- Runs: numbers next to one another, told by the first of them and how many there are.
use Rattle.std.specs.Prelude.{ℕ, ◌+◌, ◌<◌, ◌≤◌, List, [], ◌∷◌, if◌then◌else◌, ◌==◌, Bool, nat_lt}
use Rattle.std.specs.List.{flat_map, range_with_len}
use Rattle.run_rows.specs.declared.run.Run.{Run}

-- the numbers of a run
abbrev pub numbers_of : Run → List ℕ
numbers_of r = range_with_len r.start r.len

-- the numbers of runs, in order
abbrev pub members : List Run → List ℕ
members rs = flat_map numbers_of rs

-- Runs with one number more in front. It lengthens the first run where it is the number before it.
abbrev pub with_first : ℕ → List Run → List Run
with_first x [] = record { start = x; len = 1 } ∷ []
with_first x (r ∷ rs) =
    if x + 1 == r.start then record { start = x; len = r.len + 1 } ∷ rs else record { start = x; len = 1 } ∷ r ∷ rs

-- the runs of a list, each as long as can be
abbrev pub runs_of : List ℕ → List Run
runs_of [] = []
runs_of (x ∷ xs) = with_first x (runs_of xs)

-- Each run begins at low or later, has a number and ends by columns, and the next begins after its end.
abbrev pub AreRuns : ℕ → ℕ → List Run → Type 0
AreRuns low columns [] = Unit {0}
AreRuns low columns (r ∷ rs) =
    (low ≤ r.start) × (0 < r.len) × (r.start + r.len ≤ columns) × AreRuns (r.start + r.len + 1) columns rs

-- the run ends after n
abbrev pub is_past : ℕ → Run → Bool
is_past n r = nat_lt n (r.start + r.len)
