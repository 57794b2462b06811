-- Laws of rows: what follows from ascending strictly within bounds.
use Rattle.std.proofs.Common.{ℕ, zero, suc, ◌+◌, ◌<◌, ◌≤◌, List, [], ◌∷◌, length, get_or, All, add-one, arith}
use Rattle.std.specs.List.Sorted.{IsStrictlyIncreasing}
use Rattle.std.proofs.lemmas.List.Elements.{All-nil, All-cons, All-weaker}
use Rattle.run_rows.specs.Row.{AscendsWithin, IsRow}

-- a list that ascends from some number ascends from any number below it
pub AscendsWithin-lower : (low mid columns : ℕ) (xs : List ℕ) → low ≤ mid → AscendsWithin mid columns xs → AscendsWithin low columns xs
AscendsWithin-lower low mid columns [] at_mid ascends = tt
AscendsWithin-lower low mid columns (x ∷ xs) at_mid ascends = (omega arith, ascends.1, ascends.2)

-- a row of so many columns is one of more
AscendsWithin-wider : (low columns wide : ℕ) (xs : List ℕ) → columns ≤ wide → AscendsWithin low columns xs → AscendsWithin low wide xs
AscendsWithin-wider low columns wide [] wider ascends = tt
AscendsWithin-wider low columns wide (x ∷ xs) wider ascends =
    (ascends.0, omega arith, AscendsWithin-wider (x + 1) columns wide xs wider ascends.2)

pub IsRow-wider : (columns wide : ℕ) (xs : List ℕ) → columns ≤ wide → IsRow columns xs → IsRow wide xs
IsRow-wider columns wide xs wider row =
    record { some = row.some; ascends = AscendsWithin-wider 0 columns wide xs wider row.ascends }

-- the numbers of an ascending list are between its bounds
pub All-ascending : (low columns : ℕ) (xs : List ℕ) → AscendsWithin low columns xs → All (λ x. (low ≤ x) × (x < columns)) xs
All-ascending low columns [] ascends = All-nil _
All-ascending low columns (x ∷ xs) ascends =
    All-cons (λ x. (low ≤ x) × (x < columns)) x xs (ascends.0, ascends.1)
    (All-weaker (λ y. (x + 1 ≤ y) × (y < columns)) (λ y. (low ≤ y) × (y < columns)) (λ y h. (omega arith, h.1)) xs (All-ascending (x + 1) columns xs ascends.2))

-- a list that ascends ascends at each place
AscendsWithin-step : (low columns : ℕ) (xs : List ℕ) → AscendsWithin low columns xs → (k : ℕ) → suc k < length xs → get_or xs k 0 < get_or xs (suc k) 0
AscendsWithin-step low columns [] ascends k within = absurd (omega arith)
AscendsWithin-step low columns (x ∷ []) ascends k within = absurd (omega arith)
AscendsWithin-step low columns (x ∷ y ∷ ys) ascends zero within = omega (arith, ascends.2.0)
AscendsWithin-step low columns (x ∷ y ∷ ys) ascends (suc k) within =
    AscendsWithin-step (x + 1) columns (y ∷ ys) ascends.2 k (omega arith)

-- a row in std's words
pub increasing_row : (columns : ℕ) (xs : List ℕ) → IsRow columns xs → IsStrictlyIncreasing xs
increasing_row columns xs row k within = rw add-one (AscendsWithin-step 0 columns xs row.ascends k (omega arith))

pub row_below : (columns : ℕ) (xs : List ℕ) → IsRow columns xs → All (λ x. x < columns) xs
row_below columns xs row =
    All-weaker (λ x. (0 ≤ x) × (x < columns)) (λ x. x < columns) (λ x h. h.1) xs (All-ascending 0 columns xs row.ascends)
