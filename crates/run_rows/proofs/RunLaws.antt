-- Laws of runs: the runs of an ascending list and the list determine each other.
use Rattle.std.proofs.Common.{◌≡◌, ◌≢◌, ℕ, zero, suc, ◌+◌, ◌-◌, ◌<◌, ◌≤◌, List, [], ◌∷◌, ◌++◌, length, refl, ap, ◌∙◌, subst, add-one, length-append, eq-eqb, inl, inr, arith}
use Rattle.std.proofs.lemmas.Bool.{cases_eq}
use Rattle.std.proofs.lemmas.Bool.Decides.{nat_tests}
use Rattle.std.proofs.lemmas.List.FromFn.{length-range_with_len}
use Rattle.std.specs.List.{range_with_len}
use Rattle.run_rows.specs.declared.run.Run.{Run}
use Rattle.run_rows.specs.Row.{AscendsWithin}
use Rattle.run_rows.proofs.RowLaws.{AscendsWithin-lower}
use Rattle.run_rows.specs.Runs.{numbers_of, members, with_first, runs_of, AreRuns}

-- a number right before the first run joins it
pub with_first-next : (x : ℕ) (r : Run) (rs : List Run) → x + 1 ≡ r.start → with_first x (r ∷ rs) ≡ record { start = x; len = r.len + 1 } ∷ rs
with_first-next x r rs e = rw (eq-eqb (x + 1) r.start e) refl

-- any other is a run of its own
pub with_first-apart : (x : ℕ) (r : Run) (rs : List Run) → x + 1 ≢ r.start → with_first x (r ∷ rs) ≡ record { start = x; len = 1 } ∷ r ∷ rs
with_first-apart x r rs ne = grind (arith, nat_tests)

-- a number in front of runs stands in front of their numbers
pub members-with_first : (x : ℕ) (rs : List Run) → members (with_first x rs) ≡ x ∷ members rs
members-with_first x [] = refl
members-with_first x (r ∷ rs) =
    elim (cases_eq (x + 1) r.start) [
      | inl e ↦ rw (with_first-next x r rs e, add-one, e) refl
      | inr ne ↦ rw (with_first-apart x r rs ne) refl
    ]

-- the runs of a list have its numbers
pub members-runs_of : (xs : List ℕ) → members (runs_of xs) ≡ xs
members-runs_of [] = refl
members-runs_of (x ∷ xs) = members-with_first x (runs_of xs) ∙ ap (λ (ys : List ℕ). x ∷ ys) (members-runs_of xs)

-- a number below runs, in front of them, makes runs
AreRuns-with_first : (low columns x : ℕ) (rs : List Run) → low ≤ x → x < columns → AreRuns (x + 1) columns rs → AreRuns low columns (with_first x rs)
AreRuns-with_first low columns x [] at_low below fits = (at_low, omega arith, omega arith, tt)
AreRuns-with_first low columns x (r ∷ rs) at_low below fits =
    elim (cases_eq (x + 1) r.start) [
      | inl e ↦ (let ends : r.start + r.len + 1 ≡ x + (r.len + 1) + 1 = omega arith in
          rw (with_first-next x r rs e) (at_low, omega arith, omega arith, subst (λ (n : ℕ). AreRuns n columns rs) ends fits.3))
      | inr ne ↦ rw (with_first-apart x r rs ne) (at_low, omega arith, omega arith, (omega arith, fits.1, fits.2, fits.3))
    ]

-- the runs of an ascending list are in order, with a gap between each and the next
pub AreRuns-runs_of : (low columns : ℕ) (xs : List ℕ) → AscendsWithin low columns xs → AreRuns low columns (runs_of xs)
AreRuns-runs_of low columns [] ascends = tt
AreRuns-runs_of low columns (x ∷ xs) ascends =
    AreRuns-with_first low columns x (runs_of xs) ascends.0 ascends.1 (AreRuns-runs_of (x + 1) columns xs ascends.2)

-- a run's numbers in front of an ascending list
AscendsWithin-run : (low mid columns start len : ℕ) (xs : List ℕ) → low ≤ start → start + len ≤ columns → start + len ≤ mid → AscendsWithin mid columns xs → AscendsWithin low columns (range_with_len start len ++ xs)
AscendsWithin-run low mid columns start zero xs at_low fits before ascends = AscendsWithin-lower low mid columns xs (omega arith) ascends
AscendsWithin-run low mid columns start (suc len) xs at_low fits before ascends =
    (at_low, omega arith, AscendsWithin-run (start + 1) mid columns (start + 1) len xs (omega arith) (omega arith) (omega arith) ascends)

-- the numbers of runs in order ascend
pub AscendsWithin-members : (low columns : ℕ) (rs : List Run) → AreRuns low columns rs → AscendsWithin low columns (members rs)
AscendsWithin-members low columns [] fits = tt
AscendsWithin-members low columns (r ∷ rs) fits =
    AscendsWithin-run low (r.start + r.len + 1) columns r.start r.len (members rs) fits.0 fits.2 (omega arith) (AscendsWithin-members (r.start + r.len + 1) columns rs fits.3)

-- a number with a gap behind it, in front of runs
with_first-gap : (columns x : ℕ) (rs : List Run) → AreRuns (x + 2) columns rs → with_first x rs ≡ record { start = x; len = 1 } ∷ rs
with_first-gap columns x [] fits = refl
with_first-gap columns x (r ∷ rs) fits = with_first-apart x r rs (λ e. omega arith)

-- runs that begin at some number or later begin at any number below it or later
pub AreRuns-lower : (low mid columns : ℕ) (rs : List Run) → low ≤ mid → AreRuns mid columns rs → AreRuns low columns rs
AreRuns-lower low mid columns [] at_mid fits = tt
AreRuns-lower low mid columns (r ∷ rs) at_mid fits = (omega arith, fits.1, fits.2, fits.3)

-- a run's numbers, with a gap behind them, are one run
pub runs_of-run : (columns start len : ℕ) (xs : List ℕ) → 0 < len → AreRuns (start + len + 1) columns (runs_of xs) → runs_of (range_with_len start len ++ xs) ≡ record { start = start; len = len } ∷ runs_of xs
runs_of-run columns start zero xs some fits = absurd (omega arith)
runs_of-run columns start (suc zero) xs some fits =
    with_first-gap columns start (runs_of xs) (AreRuns-lower (start + 2) (start + 1 + 1) columns (runs_of xs) (omega arith) fits)
runs_of-run columns start (suc (suc len)) xs some fits =
    let behind = AreRuns-lower (start + 1 + suc len + 1) (start + suc (suc len) + 1) columns (runs_of xs) (omega arith) fits in
    ap (with_first start) (runs_of-run columns (start + 1) (suc len) xs (omega arith) behind) ∙ with_first-next start (record { start = start + 1; len = suc len }) (runs_of xs) refl ∙ rw add-one refl

-- runs in order are the runs of their numbers
pub runs_of-members : (low columns : ℕ) (rs : List Run) → AreRuns low columns rs → runs_of (members rs) ≡ rs
runs_of-members low columns [] fits = refl
runs_of-members low columns (r ∷ rs) fits =
    let behind = runs_of-members (r.start + r.len + 1) columns rs fits.3 in
    runs_of-run columns r.start r.len (members rs) fits.1 (rw behind fits.3) ∙ ap (λ (qs : List Run). r ∷ qs) behind

-- one more run has its numbers more
pub length-members-cons : (r : Run) (rs : List Run) → length (members (r ∷ rs)) ≡ r.len + length (members rs)
length-members-cons r rs = omega (arith, length-append (numbers_of r) (members rs), length-range_with_len r.start r.len)

-- runs have no more numbers than there are columns for them
pub length-members-le : (low columns : ℕ) (rs : List Run) → AreRuns low columns rs → length (members rs) ≤ columns - low
length-members-le low columns [] fits = omega arith
length-members-le low columns (r ∷ rs) fits =
    omega (arith, length-members-cons r rs, length-members-le (r.start + r.len + 1) columns rs fits.3)
