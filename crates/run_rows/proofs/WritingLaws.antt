-- Laws of writing: a run that is being written, and the numbers behind it.
use Rattle.std.proofs.Common.{◌≡◌, ◌≢◌, ℕ, zero, suc, ◌+◌, ◌<◌, ◌≤◌, List, [], ◌∷◌, ◌++◌, sym, ap, ◌∙◌, append_assoc, add-one, arith}
use Rattle.std.proofs.lemmas.List.{append-nil}
use Rattle.std.specs.List.{flat_map, range_with_len}
use Rattle.run_rows.specs.declared.run.Run.{Run}
use Rattle.run_rows.specs.Row.{AscendsWithin}
use Rattle.run_rows.specs.Runs.{numbers_of, runs_of}
use Rattle.run_rows.specs.Encoding.{run_bytes}
use Rattle.run_rows.proofs.RowLaws.{AscendsWithin-lower}
use Rattle.run_rows.proofs.RunLaws.{AreRuns-runs_of, runs_of-run}

-- the bytes of a list's runs
abbrev bytes_of_runs : List ℕ → List ℕ
bytes_of_runs xs = flat_map run_bytes (runs_of xs)

-- The bytes of the whole list are those that are out, and those of the run and the numbers behind it.
pub record IsWriting (columns : ℕ) (whole out : List ℕ) (r : Run) (rest : List ℕ) : Type 0 where
  pub written : bytes_of_runs whole ≡ out ++ bytes_of_runs (numbers_of r ++ rest)
  pub some : 0 < r.len
  pub within : r.start + r.len ≤ columns
  pub ascends : AscendsWithin (r.start + r.len) columns rest

-- a number right behind a run joins it
range_with_len-joined : (a n x : ℕ) (xs : List ℕ) → x ≡ a + n → range_with_len a n ++ x ∷ xs ≡ range_with_len a (suc n) ++ xs
range_with_len-joined a zero x xs next = let same : x ≡ a = omega arith in ap (λ (y : ℕ). y ∷ xs) same
range_with_len-joined a (suc n) x xs next = ap (λ (ys : List ℕ). a ∷ ys) (range_with_len-joined (a + 1) n x xs (omega arith))

pub IsWriting-joined : (columns x : ℕ) (whole out xs : List ℕ) (r : Run) → x ≡ r.start + r.len → IsWriting columns whole out r (x ∷ xs) → IsWriting columns whole out (record { start = r.start; len = r.len + 1 }) xs
IsWriting-joined columns x whole out xs r next writing =
    let joined : numbers_of r ++ x ∷ xs ≡ range_with_len r.start (r.len + 1) ++ xs = rw add-one (range_with_len-joined r.start r.len x xs next) in
    record {
      written = writing.written ∙ ap (λ (ys : List ℕ). out ++ bytes_of_runs ys) joined;
      some = omega arith;
      within = omega (arith, writing.ascends.1);
      ascends = AscendsWithin-lower (r.start + (r.len + 1)) (x + 1) columns xs (omega arith) writing.ascends.2;
    }

-- the run is done where the next number leaves a gap, or there is none
bytes_of_runs-apart : (columns : ℕ) (r : Run) (xs : List ℕ) → 0 < r.len → AscendsWithin (r.start + r.len + 1) columns xs → bytes_of_runs (numbers_of r ++ xs) ≡ run_bytes r ++ bytes_of_runs xs
bytes_of_runs-apart columns r xs some ascends =
    ap (flat_map run_bytes) (runs_of-run columns r.start r.len xs some (AreRuns-runs_of (r.start + r.len + 1) columns xs ascends))

pub IsWriting-apart : (columns x : ℕ) (whole out xs : List ℕ) (r : Run) → x ≢ r.start + r.len → IsWriting columns whole out r (x ∷ xs) → IsWriting columns whole (out ++ run_bytes r) (record { start = x; len = 1 }) xs
IsWriting-apart columns x whole out xs r apart writing =
    let ascends = writing.ascends in
    let gap : AscendsWithin (r.start + r.len + 1) columns (x ∷ xs) = (omega arith, ascends.1, ascends.2) in
    record {
      written = writing.written ∙ ap (λ (ys : List ℕ). out ++ ys) (bytes_of_runs-apart columns r (x ∷ xs) writing.some gap) ∙ sym (append_assoc out (run_bytes r) (bytes_of_runs (x ∷ xs)));
      some = omega arith;
      within = omega (arith, ascends.1);
      ascends = ascends.2;
    }

pub IsWriting-last : (columns : ℕ) (whole out : List ℕ) (r : Run) → IsWriting columns whole out r [] → bytes_of_runs whole ≡ out ++ run_bytes r
IsWriting-last columns whole out r writing =
    writing.written ∙ ap (λ (ys : List ℕ). out ++ ys) (bytes_of_runs-apart columns r [] writing.some tt ∙ append-nil (run_bytes r))
