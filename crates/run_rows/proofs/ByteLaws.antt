-- Laws of bytes: the bytes of runs and the runs determine each other.
use Rattle.std.proofs.Common.{◌≡◌, ℕ, ◌+◌, ◌*◌, ◌^◌, ◌<◌, ◌≤◌, List, [], ◌∷◌, ◌++◌, length, map, drop, refl, sym, ap, ◌∙◌, subst, rules, arith, ◌==◌, ◌↔◌, IsTrue, length-append}
use Rattle.std.proofs.lemmas.Bool.{eqb-true}
use Rattle.std.proofs.lemmas.List.{append_cancel_left, drop-map}
use Rattle.std.specs.List.{flat_map}
use Rattle.byte_tables.specs.Pairs.{pair_bytes, pairs_in}
use Rattle.byte_tables.proofs.PairLaws.{pairs_in-pair_bytes, pairs_in_short, length-pair_bytes}
use Rattle.run_rows.specs.declared.run.Run.{Run}
use Rattle.run_rows.specs.Runs.{AreRuns}
use Rattle.run_rows.proofs.RunLaws.{AreRuns-lower}
use Rattle.run_rows.specs.Encoding.{run_bytes, run_of, runs_in, SpellsRuns}

-- a run's numbers are below 2 ^ 32
pub record Fits32 (r : Run) : Type 0 where
  pub start : r.start < 2 ^ 32
  pub len : r.len < 2 ^ 32

-- the bytes of a run, in front of others, are that run
pub runs_in-run_bytes : (r : Run) (rest : List ℕ) → Fits32 r → runs_in (run_bytes r ++ rest) ≡ r ∷ runs_in rest
unfolding run_bytes runs_in
runs_in-run_bytes r rest fits = ap (map run_of) (pairs_in-pair_bytes (r.start, r.len) rest fits.start fits.len)

-- fewer than eight bytes are no run
pub runs_in_short : (bytes : List ℕ) → length bytes < 8 → runs_in bytes ≡ []
unfolding runs_in
runs_in_short bytes short = ap (map run_of) (pairs_in_short bytes short)

-- the first pair is the first run
pub runs_in-first : (p : ℕ × ℕ) (bytes rest : List ℕ) → pairs_in bytes ≡ p ∷ pairs_in rest → runs_in bytes ≡ run_of p ∷ runs_in rest
unfolding runs_in
runs_in-first p bytes rest first = ap (map run_of) first

-- the pair in place i is the run in place i
pub runs_in-place : (i : ℕ) (p : ℕ × ℕ) (bytes : List ℕ) → drop i (pairs_in bytes) ≡ p ∷ drop (i + 1) (pairs_in bytes) → drop i (runs_in bytes) ≡ run_of p ∷ drop (i + 1) (runs_in bytes)
unfolding runs_in
runs_in-place i p bytes at =
    drop-map run_of i (pairs_in bytes) ∙ ap (map run_of) at ∙ ap (λ (rs : List Run). run_of p ∷ rs) (sym (drop-map run_of (i + 1) (pairs_in bytes)))

pub ruleset runs_of_pairs = (runs_in_short, runs_in-first, runs_in-place)

-- the bytes of runs are those runs
pub runs_in-flat_map : (rs : List Run) (low columns : ℕ) → columns < 2 ^ 32 → AreRuns low columns rs → runs_in (flat_map run_bytes rs) ≡ rs
runs_in-flat_map [] low columns small fits = runs_in_short [] (omega arith)
runs_in-flat_map (r ∷ rs) low columns small fits =
    runs_in-run_bytes r (flat_map run_bytes rs) (record { start = omega arith; len = omega arith }) ∙ ap (λ (qs : List Run). r ∷ qs) (runs_in-flat_map rs (r.start + r.len + 1) columns small fits.3)

-- the bytes of runs in order
pub SpellsRuns-flat_map : (rs : List Run) (low columns : ℕ) → columns < 2 ^ 32 → AreRuns low columns rs → SpellsRuns low columns (flat_map run_bytes rs)
SpellsRuns-flat_map rs low columns small fits =
    let same = runs_in-flat_map rs low columns small fits in
    record { spelled = ap (flat_map run_bytes) (sym same); runs = rw same fits }

-- a run takes eight bytes
pub length-run_bytes : (r : Run) → length (run_bytes r) ≡ 8
unfolding run_bytes
length-run_bytes r = length-pair_bytes (r.start, r.len)

pub length-flat_map-run_bytes : (rs : List Run) → length (flat_map run_bytes rs) ≡ 8 * length rs
unfolding run_bytes
length-flat_map-run_bytes [] = refl
length-flat_map-run_bytes (r ∷ rs) =
    omega (arith, length-pair_bytes (r.start, r.len), length-append (pair_bytes (r.start, r.len)) (flat_map run_bytes rs), length-flat_map-run_bytes rs)

pub length-runs : (low columns : ℕ) (bytes : List ℕ) → SpellsRuns low columns bytes → length bytes ≡ 8 * length (runs_in bytes)
length-runs low columns bytes spells = ap length spells.spelled ∙ length-flat_map-run_bytes (runs_in bytes)

-- the first run of bytes is in order, and so are the runs behind it
pub record BeginsWithRun (low columns : ℕ) (r : Run) (rest : List ℕ) : Type 0 where
  pub at_low : low ≤ r.start
  pub some : 0 < r.len
  pub within : r.start + r.len ≤ columns
  pub behind : SpellsRuns (r.start + r.len + 1) columns rest

pub BeginsWithRun-from_runs : (low columns : ℕ) (r : Run) (bytes rest : List ℕ) → bytes ≡ run_bytes r ++ rest → runs_in bytes ≡ r ∷ runs_in rest → SpellsRuns low columns bytes → BeginsWithRun low columns r rest
BeginsWithRun-from_runs low columns r bytes rest parts first spells =
    let runs : AreRuns low columns (r ∷ runs_in rest) = subst (AreRuns low columns) first spells.runs in
    let spelled : run_bytes r ++ rest ≡ run_bytes r ++ flat_map run_bytes (runs_in rest) = sym parts ∙ spells.spelled ∙ ap (flat_map run_bytes) first in
    record { at_low = runs.0; some = runs.1; within = runs.2; behind = record { spelled = append_cancel_left (run_bytes r) rest _ spelled; runs = runs.3 } }

-- the runs behind the first one are runs
pub runs_behind : (columns : ℕ) (r : Run) (bytes rest : List ℕ) → bytes ≡ run_bytes r ++ rest → runs_in bytes ≡ r ∷ runs_in rest → SpellsRuns 0 columns bytes → SpellsRuns 0 columns rest
runs_behind columns r bytes rest parts first spells =
    let behind = (BeginsWithRun-from_runs 0 columns r bytes rest parts first spells).behind in
    record { spelled = behind.spelled; runs = AreRuns-lower 0 (r.start + r.len + 1) columns (runs_in rest) (omega arith) behind.runs }

pub SpellsRuns-from_first : (low columns : ℕ) (r : Run) (bytes rest : List ℕ) → bytes ≡ run_bytes r ++ rest → runs_in bytes ≡ r ∷ runs_in rest → BeginsWithRun low columns r rest → SpellsRuns low columns bytes
SpellsRuns-from_first low columns r bytes rest parts first then =
    let spelled : bytes ≡ flat_map run_bytes (r ∷ runs_in rest) = parts ∙ ap (λ (p : List ℕ). run_bytes r ++ p) then.behind.spelled in
    record { spelled = spelled ∙ ap (flat_map run_bytes) (sym first); runs = rw first (then.at_low, then.some, then.within, then.behind.runs) }

SpellsRuns-nil : (low columns : ℕ) → SpellsRuns low columns []
SpellsRuns-nil low columns =
    let none = runs_in_short [] (omega arith) in
    record { spelled = ap (flat_map run_bytes) (sym none); runs = rw none tt }

-- of fewer than eight bytes only none at all are runs
pub SpellsRuns-short : (low columns : ℕ) (bytes : List ℕ) → length bytes < 8 → IsTrue (length bytes == 0) ↔ SpellsRuns low columns bytes
SpellsRuns-short low columns [] short = (λ _. SpellsRuns-nil low columns, λ _. search rules)
SpellsRuns-short low columns (b ∷ bytes) short =
    (λ empty. absurd (omega (arith, eqb-true _ _ empty)), λ spells. absurd (let nil : b ∷ bytes ≡ [] = spells.spelled ∙ ap (flat_map run_bytes) (runs_in_short (b ∷ bytes) short) in cc))
