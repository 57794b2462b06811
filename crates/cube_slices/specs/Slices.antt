-- The bytes of a slice: how many rows it has, an entry for each of them, and the bytes of the rows. An entry is the row's
-- number and where its bytes end, counted from the first byte of the rows.
use Rattle.std.specs.Prelude.{◌≡◌, ℕ, ◌+◌, ◌-◌, ◌*◌, ◌^◌, ◌<◌, ◌≤◌, List, [], ◌∷◌, ◌++◌, length, take, drop}
use Rattle.std.specs.List.{flat_map}
use Rattle.std.specs.Int.{w32, to_le_bytes, from_le_bytes}
use Rattle.byte_tables.specs.Pairs.{pair_bytes, pairs_in}
use Rattle.run_rows.specs.declared.form.RowForm.{RowForm}
use Rattle.run_rows.specs.Encoding.{row_bytes, row_numbers, IsEncoding}
use Rattle.cube_slices.specs.Lines.{Line, AreLines}

-- ---- from lines to bytes

-- the bytes of a line's row
abbrev pub bytes_of_line : RowForm → Line → List ℕ
bytes_of_line form l = row_bytes form l.columns

-- the bytes of all rows
abbrev pub bytes_of_lines : RowForm → List Line → List ℕ
bytes_of_lines form ls = flat_map (bytes_of_line form) ls

-- the entries of lines whose rows begin at some place
abbrev pub entries_of : RowForm → ℕ → List Line → List (ℕ × ℕ)
entries_of form from [] = []
entries_of form from (l ∷ ls) =
    (l.row, from + length (bytes_of_line form l)) ∷ entries_of form (from + length (bytes_of_line form l)) ls

-- the bytes of the slice of these lines
unfoldable pub slice_bytes : RowForm → List Line → List ℕ
slice_bytes form ls =
    to_le_bytes w32 (length ls) ++ (flat_map pair_bytes (entries_of form 0 ls) ++ bytes_of_lines form ls)

-- ---- from bytes to lines

-- how many rows the bytes begin with
abbrev pub line_count : List ℕ → ℕ
line_count bytes = from_le_bytes w32 (take 4 bytes)

-- the bytes of the entries, and those behind them
abbrev pub entry_part : List ℕ → List ℕ
entry_part bytes = take (8 * line_count bytes) (drop 4 bytes)

abbrev pub row_part : List ℕ → List ℕ
row_part bytes = drop (8 * line_count bytes) (drop 4 bytes)

-- the lines of entries, whose rows stand in bytes that begin at some place
abbrev pub lines_at : RowForm → ℕ → List (ℕ × ℕ) → List ℕ → List Line
lines_at form from [] bytes = []
lines_at form from (e ∷ es) bytes =
    record { row = e.0; columns = row_numbers form (take (e.1 - from) bytes) } ∷ lines_at form e.1 es (drop (e.1 - from) bytes)

-- the lines that the bytes of a slice stand for
unfoldable pub slice_lines : RowForm → List ℕ → List Line
slice_lines form bytes = lines_at form 0 (pairs_in (entry_part bytes)) (row_part bytes)

-- ---- which bytes are a slice

-- The entries ascend strictly by row from low on, below rows. Each ends past the one before and within the bytes, the last
-- one with them, and what lies between is the encoding of a row.
abbrev pub AreEntries : RowForm → ℕ → ℕ → ℕ → ℕ → List (ℕ × ℕ) → List ℕ → Type 0
AreEntries form rows columns low from [] bytes = length bytes ≡ 0
AreEntries form rows columns low from (e ∷ es) bytes =
    (low ≤ e.0) × (e.0 < rows) × (from < e.1) × (e.1 ≤ from + length bytes) × IsEncoding form columns (take (e.1 - from) bytes)
    × AreEntries form rows columns (e.0 + 1) e.1 es (drop (e.1 - from) bytes)

-- the bytes are a slice with so many rows and columns
pub record IsSlice (form : RowForm) (rows columns : ℕ) (bytes : List ℕ) : Type 0 where
  pub counted : 4 ≤ length bytes
  pub some : 0 < line_count bytes
  pub room : 4 + 8 * line_count bytes ≤ length bytes
  pub entries : AreEntries form rows columns 0 0 (pairs_in (entry_part bytes)) (row_part bytes)

-- these are lines of so many rows and columns, and the bytes are their slice
pub record EncodesLines (form : RowForm) (rows columns : ℕ) (bytes : List ℕ) (ls : List Line) : Type 0 where
  pub lines : AreLines rows columns ls
  pub short : length (bytes_of_lines form ls) < 2 ^ 32
  pub spelled : bytes ≡ slice_bytes form ls
