-- Laws of the search for the first run that ends after a number.
use Rattle.std.proofs.Common.{◌≡◌, ℕ, zero, suc, ◌+◌, ◌<◌, ◌≤◌, List, [], ◌∷◌, length, drop, find, Some, None, refl, ap, ◌∙◌, subst, arith}
use Rattle.std.proofs.lemmas.Bool.{lt-ltb, le-ltb}
use Rattle.std.proofs.lemmas.List.{drop_all}
use Rattle.run_rows.specs.declared.run.Run.{Run}
use Rattle.run_rows.specs.Runs.{AreRuns, is_past}

-- a later run begins later
AreRuns-drop : (low columns i : ℕ) (r : Run) (rs after : List Run) → AreRuns low columns rs → drop i rs ≡ r ∷ after → low ≤ r.start
AreRuns-drop low columns zero r [] after fits at = absurd cc
AreRuns-drop low columns zero r (q ∷ qs) after fits at =
    let same : q ≡ r = cc in subst (λ (p : Run). low ≤ p.start) same fits.0
AreRuns-drop low columns (suc i) r [] after fits at = absurd cc
AreRuns-drop low columns (suc i) r (q ∷ qs) after fits at =
    omega (arith, AreRuns-drop (q.start + q.len + 1) columns i r qs after fits.3 at)

-- the search passes over a run that doesn't end after n, and finds one that does
pub find-short : (n : ℕ) (r : Run) (rs : List Run) → r.start + r.len ≤ n → find (is_past n) (r ∷ rs) ≡ find (is_past n) rs
find-short n r rs ends = rw (le-ltb n (r.start + r.len) ends) refl

pub find-past : (n : ℕ) (r : Run) (rs : List Run) → n < r.start + r.len → find (is_past n) (r ∷ rs) ≡ Some r
find-past n r rs ends = rw (lt-ltb n (r.start + r.len) ends) refl

-- a run that doesn't end after n is passed over with all runs before it
pub find-passed : (n low columns i : ℕ) (r : Run) (rs after : List Run) → AreRuns low columns rs → drop i rs ≡ r ∷ after → r.start + r.len ≤ n → find (is_past n) rs ≡ find (is_past n) after
find-passed n low columns zero r rs after fits at ends = ap (find (is_past n)) at ∙ find-short n r after ends
find-passed n low columns (suc i) r [] after fits at ends = absurd cc
find-passed n low columns (suc i) r (q ∷ qs) after fits at ends =
    find-short n q qs (omega (arith, AreRuns-drop (q.start + q.len + 1) columns i r qs after fits.3 at)) ∙ find-passed n (q.start + q.len + 1) columns i r qs after fits.3 at ends

-- the first of the runs, if there is one, ends after n
abbrev BeginPast : ℕ → List Run → Type 0
BeginPast n [] = Unit {0}
BeginPast n (r ∷ rs) = n < r.start + r.len

-- the first run that ends after n is neither before low nor behind high
pub record IsHalved (n : ℕ) (rs : List Run) (low high : ℕ) : Type 0 where
  pub ordered : low ≤ high
  pub within : high ≤ length rs
  pub passed : find (is_past n) rs ≡ find (is_past n) (drop low rs)
  pub past : BeginPast n (drop high rs)

pub IsHalved-whole : (n high : ℕ) (rs : List Run) → high ≡ length rs → IsHalved n rs 0 high
IsHalved-whole n high rs all =
    record { ordered = omega arith; within = omega arith; passed = refl; past = rw (drop_all high rs (omega arith)) tt }

pub IsHalved-upper : (n low high middle columns : ℕ) (r : Run) (rs : List Run) → AreRuns 0 columns rs → middle < high → drop middle rs ≡ r ∷ drop (middle + 1) rs → r.start + r.len ≤ n → IsHalved n rs low high → IsHalved n rs (middle + 1) high
IsHalved-upper n low high middle columns r rs fits below at ends halved =
    record { ordered = omega arith; within = halved.within; passed = find-passed n 0 columns middle r rs (drop (middle + 1) rs) fits at ends; past = halved.past }

-- where low is behind the last run, no run ends after n
pub find-none : (n low high : ℕ) (rs : List Run) → IsHalved n rs low high → length rs ≤ low → find (is_past n) rs ≡ None
find-none n low high rs halved at_end = halved.passed ∙ rw (drop_all low rs at_end) refl
