-- The bytes of a row, in each form.
use Rattle.std.specs.Prelude.{◌≡◌, ℕ, List, map}
use Rattle.std.specs.List.{flat_map}
use Rattle.byte_tables.specs.Pairs.{pair_bytes, pairs_in}
use Rattle.run_rows.specs.declared.form.RowForm.{RowForm}
use Rattle.run_rows.specs.declared.form.RowForm.TheVariants.{V1}
use Rattle.run_rows.specs.declared.run.Run.{Run}
use Rattle.run_rows.specs.Row.{IsRow}
use Rattle.run_rows.specs.Runs.{members, runs_of, AreRuns}

-- a run as a pair of numbers of four bytes: its start and its length
unfoldable pub run_bytes : Run → List ℕ
run_bytes r = pair_bytes (r.start, r.len)

-- the bytes of a row
unfoldable pub row_bytes : RowForm → List ℕ → List ℕ
row_bytes V1 xs = flat_map run_bytes (runs_of xs)

-- the run that a pair stands for
abbrev pub run_of : ℕ × ℕ → Run
run_of p = record { start = p.0; len = p.1 }

-- the runs that stand in bytes, eight bytes each
unfoldable pub runs_in : List ℕ → List Run
runs_in bytes = map run_of (pairs_in bytes)

-- the numbers that bytes stand for
unfoldable pub row_numbers : RowForm → List ℕ → List ℕ
row_numbers V1 bytes = members (runs_in bytes)

-- xs is a row of so many columns, and the bytes are its encoding
pub record Encodes (form : RowForm) (columns : ℕ) (bytes xs : List ℕ) : Type 0 where
  pub row : IsRow columns xs
  pub spelled : bytes ≡ row_bytes form xs

-- the bytes are the encoding of a row
abbrev pub IsEncoding : RowForm → ℕ → List ℕ → Type 0
IsEncoding form columns bytes = Encodes form columns bytes (row_numbers form bytes)

-- the bytes are whole runs and nothing else, and the runs are in order
pub record SpellsRuns (low columns : ℕ) (bytes : List ℕ) : Type 0 where
  pub spelled : bytes ≡ flat_map run_bytes (runs_in bytes)
  pub runs : AreRuns low columns (runs_in bytes)
