-- What a slice that was read holds: its entries, and the bytes of its rows.
use Rattle.std.specs.Prelude.{◌≡◌, ℕ, ◌+◌, ◌-◌, ◌*◌, ◌^◌, ◌<◌, ◌≤◌, zero, suc, List, [], ◌∷◌, length, take}
use Rattle.byte_tables.specs.Pairs.{pairs_in}
use Rattle.run_rows.specs.declared.form.RowForm.{RowForm}
use Rattle.cube_slices.specs.Lines.{Line}
use Rattle.run_rows.specs.Encoding.{IsEncoding}
use Rattle.cube_slices.specs.Slices.{line_count, lines_at, AreEntries}

-- the lines that they stand for
abbrev pub lines_shown : RowForm → List ℕ → List ℕ → List Line
lines_shown form entries bytes = lines_at form 0 (pairs_in entries) bytes

-- the entries are whole, and are those of the rows
pub record ShowsLines (form : RowForm) (entries bytes : List ℕ) : Type 0 where
  pub whole : length entries ≡ 8 * length (pairs_in entries)
  pub are : AreEntries form (2 ^ 32 - 1) (2 ^ 32 - 1) 0 0 (pairs_in entries) bytes

-- the bytes begin with the number of rows, of one at least, and there is room for their entries
pub record HasEntries (bytes : List ℕ) : Type 0 where
  pub counted : 4 ≤ length bytes
  pub some : 0 < line_count bytes
  pub room : 4 + 8 * line_count bytes ≤ length bytes

-- the first entry is in order, and its row is the encoding of one
pub record IsEntry (form : RowForm) (rows columns low from : ℕ) (entry : ℕ × ℕ) (bytes : List ℕ) : Type 0 where
  pub at_low : low ≤ entry.0
  pub row_within : entry.0 < rows
  pub up : from < entry.1
  pub within : entry.1 ≤ from + length bytes
  pub row : IsEncoding form columns (take (entry.1 - from) bytes)

-- where the rows of the entries before place i end, the first of them starting at some place
abbrev pub start_at : ℕ → ℕ → List (ℕ × ℕ) → ℕ
start_at from zero es = from
start_at from (suc i) [] = from
start_at from (suc i) (e ∷ es) = start_at e.1 i es
