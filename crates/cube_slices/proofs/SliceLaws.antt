-- Laws of slices: lines have one spelling, and a slice one list of lines.
use Rattle.std.proofs.Common.{◌≡◌, ℕ, ◌+◌, ◌-◌, ◌*◌, ◌^◌, ◌<◌, List, ◌++◌, length, take, drop, refl, sym, ap, ◌∙◌, arith, length-append}
use Rattle.std.proofs.lemmas.Nat.{le_bytes_4, from_le_bytes-to_le_bytes_4}
use Rattle.std.proofs.lemmas.List.{length-take, length-drop, take_at, drop_at, take-append-drop}
use Rattle.std.specs.List.{flat_map}
use Rattle.std.specs.Int.{w32, to_le_bytes}
use Rattle.byte_tables.specs.Numbers.{IsBytes}
use Rattle.byte_tables.specs.Pairs.{pair_bytes, pairs_in}
use Rattle.byte_tables.proofs.NumberLaws.{IsBytes-take, IsBytes-drop}
use Rattle.byte_tables.proofs.PairLaws.{pairs_in-flat_map, length-flat_map-pair_bytes, pairs_written, length-pairs_in, PairsFit32-pairs_in}
use Rattle.run_rows.specs.declared.form.RowForm.{RowForm}
use Rattle.cube_slices.specs.Lines.{Line, LinesAscend, AreLines}
use Rattle.cube_slices.specs.Slices.{bytes_of_lines, entries_of, slice_bytes, line_count, entry_part, row_part, lines_at, slice_lines, AreEntries, IsSlice, EncodesLines}
use Rattle.cube_slices.specs.steps.Shown.{lines_shown, ShowsLines, HasEntries}
use Rattle.cube_slices.proofs.LineLaws.{length-lines-le}
use Rattle.cube_slices.proofs.EntryLaws.{length-entries_of, lines_at-entries_of, AreEntries-entries_of, PairsFit32-entries_of, length-lines_at, entries_of-lines_at, bytes_of-lines_at, LinesAscend-lines_at, entries_are_short, AreEntries-wider}

-- ---- from lines to bytes and back

-- the three parts of the bytes of lines
record PartsOf (form : RowForm) (ls : List Line) : Type 0 where
  count : line_count (slice_bytes form ls) ≡ length ls
  entries : entry_part (slice_bytes form ls) ≡ flat_map pair_bytes (entries_of form 0 ls)
  rows : row_part (slice_bytes form ls) ≡ bytes_of_lines form ls
  long : length (slice_bytes form ls) ≡ 4 + 8 * length ls + length (bytes_of_lines form ls)

PartsOf-lines : (form : RowForm) (ls : List Line) → length ls < 2 ^ 32 → PartsOf form ls
unfolding slice_bytes
PartsOf-lines form ls few =
    let entries = flat_map pair_bytes (entries_of form 0 ls) in
    let rows = bytes_of_lines form ls in
    let count : line_count (slice_bytes form ls) ≡ length ls = from_le_bytes-to_le_bytes_4 (length ls) few in
    let room : length entries ≡ 8 * length ls = length-flat_map-pair_bytes (entries_of form 0 ls) ∙ ap (λ (n : ℕ). 8 * n) (length-entries_of form 0 ls) in
    record {
      count = count;
      entries = ap (λ (n : ℕ). take (8 * n) (entries ++ rows)) count ∙ take_at entries rows (8 * length ls) room;
      rows = ap (λ (n : ℕ). drop (8 * n) (entries ++ rows)) count ∙ drop_at entries rows (8 * length ls) room;
      long = omega (arith, length-append entries rows, room);
    }

few_lines : (rows columns : ℕ) (ls : List Line) → rows < 2 ^ 32 → AreLines rows columns ls → length ls < 2 ^ 32
few_lines rows columns ls small lines = omega (arith, length-lines-le 0 rows columns ls lines.ascend)

-- the entries of lines are read again
entries_again : (form : RowForm) (rows columns : ℕ) (ls : List Line) → rows < 2 ^ 32 → AreLines rows columns ls → length (bytes_of_lines form ls) < 2 ^ 32 → pairs_in (entry_part (slice_bytes form ls)) ≡ entries_of form 0 ls
entries_again form rows columns ls small lines short =
    ap pairs_in (PartsOf-lines form ls (few_lines rows columns ls small lines)).entries ∙ pairs_in-flat_map (entries_of form 0 ls) (PairsFit32-entries_of form 0 rows columns 0 ls small (omega arith) lines.ascend)

-- what was written is read again
pub slice_lines-slice_bytes : (form : RowForm) (rows columns : ℕ) (ls : List Line) → rows < 2 ^ 32 → columns < 2 ^ 32 → AreLines rows columns ls → length (bytes_of_lines form ls) < 2 ^ 32 → slice_lines form (slice_bytes form ls) ≡ ls
unfolding slice_lines
slice_lines-slice_bytes form rows columns ls small narrow lines short =
    let parts = PartsOf-lines form ls (few_lines rows columns ls small lines) in
    let entries = entries_again form rows columns ls small lines short in
    let read : slice_lines form (slice_bytes form ls) ≡ lines_at form 0 (entries_of form 0 ls) (bytes_of_lines form ls) = λ i. lines_at form 0 (entries i) (parts.rows i) in
    read ∙ lines_at-entries_of form 0 rows columns 0 ls narrow lines.ascend

-- what was written is a slice
pub IsSlice-slice_bytes : (form : RowForm) (rows columns : ℕ) (ls : List Line) → rows < 2 ^ 32 → columns < 2 ^ 32 → AreLines rows columns ls → length (bytes_of_lines form ls) < 2 ^ 32 → IsSlice form rows columns (slice_bytes form ls)
IsSlice-slice_bytes form rows columns ls small narrow lines short =
    let parts = PartsOf-lines form ls (few_lines rows columns ls small lines) in
    let some = lines.some in
    let count = parts.count in
    let long = parts.long in
    record {
      counted = omega arith;
      some = omega arith;
      room = omega arith;
      entries = rw (entries_again form rows columns ls small lines short, parts.rows) (AreEntries-entries_of form 0 rows columns 0 ls narrow lines.ascend);
    }

-- bytes that are the slice of lines are of no others
pub slice_lines-encodes : (form : RowForm) (rows columns : ℕ) (bytes : List ℕ) (ls : List Line) → EncodesLines form rows columns bytes ls → rows < 2 ^ 32 → columns < 2 ^ 32 → slice_lines form bytes ≡ ls
slice_lines-encodes form rows columns bytes ls encodes small narrow =
    ap (slice_lines form) encodes.spelled ∙ slice_lines-slice_bytes form rows columns ls small narrow encodes.lines encodes.short

pub IsSlice-from_encodes : (form : RowForm) (rows columns : ℕ) (bytes : List ℕ) (ls : List Line) → EncodesLines form rows columns bytes ls → rows < 2 ^ 32 → columns < 2 ^ 32 → IsSlice form rows columns bytes
IsSlice-from_encodes form rows columns bytes ls encodes small narrow =
    rw encodes.spelled (IsSlice-slice_bytes form rows columns ls small narrow encodes.lines encodes.short)

-- ---- from bytes to lines and back

-- the bytes of the entries are whole
length-entry_part : (form : RowForm) (rows columns : ℕ) (bytes : List ℕ) → IsSlice form rows columns bytes → length (entry_part bytes) ≡ 8 * line_count bytes
length-entry_part form rows columns bytes slice =
    let room = slice.room in
    omega (arith, length-take (8 * line_count bytes) (drop 4 bytes), length-drop 4 bytes)

-- a slice is the one spelling of the lines that it stands for
pub EncodesLines-slice : (form : RowForm) (rows columns : ℕ) (bytes : List ℕ) → IsBytes bytes → IsSlice form rows columns bytes → EncodesLines form rows columns bytes (slice_lines form bytes)
unfolding slice_bytes slice_lines
EncodesLines-slice form rows columns bytes fits slice =
    let count = line_count bytes in
    let es = pairs_in (entry_part bytes) in
    let ls = slice_lines form bytes in
    let room = length-entry_part form rows columns bytes slice in
    let counted : length es ≡ count = length-pairs_in count (entry_part bytes) room in
    let long : length ls ≡ count = length-lines_at form 0 es (row_part bytes) ∙ counted in
    let entry_bytes = IsBytes-take (8 * count) (drop 4 bytes) (IsBytes-drop 4 bytes fits) in
    let some = slice.some in
    let of_rows = bytes_of-lines_at form rows columns 0 0 es (row_part bytes) slice.entries in
    let of_entries = ap (flat_map pair_bytes) (entries_of-lines_at form rows columns 0 0 es (row_part bytes) slice.entries) ∙ pairs_written count (entry_part bytes) entry_bytes room in
    let four : length (take 4 bytes) ≡ 4 = omega (arith, length-take 4 bytes, slice.counted) in
    let of_count = ap (to_le_bytes w32) long ∙ le_bytes_4 (take 4 bytes) count four (IsBytes-take 4 bytes fits) refl in
    let spelled : slice_bytes form ls ≡ take 4 bytes ++ (entry_part bytes ++ row_part bytes) = λ i. of_count i ++ (of_entries i ++ of_rows i) in
    record {
      lines = record { some = omega arith; ascend = LinesAscend-lines_at form rows columns 0 0 es (row_part bytes) slice.entries };
      short = omega (arith, ap length of_rows, entries_are_short form rows columns 0 0 es (row_part bytes) (omega arith) (PairsFit32-pairs_in (entry_part bytes) entry_bytes) slice.entries);
      spelled = sym (spelled ∙ ap (λ (bs : List ℕ). take 4 bytes ++ bs) (take-append-drop (8 * count) (drop 4 bytes)) ∙ take-append-drop 4 bytes);
    }

-- ---- what a slice that is read knows

-- the parts of a slice show its lines
pub record IsShown (form : RowForm) (bytes entries rows : List ℕ) : Type 0 where
  pub shown : ShowsLines form entries rows
  pub lines : lines_shown form entries rows ≡ slice_lines form bytes
  pub few : length entries < 2 ^ 35

pub IsShown-slice : (form : RowForm) (rows columns : ℕ) (bytes entries row_bytes : List ℕ) → entries ≡ entry_part bytes → row_bytes ≡ row_part bytes → rows < 2 ^ 32 → columns < 2 ^ 32 → IsSlice form rows columns bytes → IsShown form bytes entries row_bytes
unfolding slice_lines
IsShown-slice form rows columns bytes entries row_bytes entries-are rows-are small narrow slice =
    let es = pairs_in (entry_part bytes) in
    let room = length-entry_part form rows columns bytes slice in
    let counted : length es ≡ line_count bytes = length-pairs_in (line_count bytes) (entry_part bytes) room in
    let ascend = LinesAscend-lines_at form rows columns 0 0 es (row_part bytes) slice.entries in
    let few = length-lines-le 0 rows columns (lines_at form 0 es (row_part bytes)) ascend in
    rw (entries-are, rows-are) (record {
      shown = record {
        whole = omega arith;
        are = AreEntries-wider form rows columns (2 ^ 32 - 1) (2 ^ 32 - 1) 0 0 es (row_part bytes) (omega arith) (omega arith) slice.entries;
      };
      lines = refl;
      few = omega (arith, length-lines_at form 0 es (row_part bytes));
    })

-- what a slice that is read says of its lines
pub lines_of_shown : (form : RowForm) (entries bytes : List ℕ) → ShowsLines form entries bytes → LinesAscend 0 (2 ^ 32 - 1) (2 ^ 32 - 1) (lines_shown form entries bytes)
lines_of_shown form entries bytes shown =
    LinesAscend-lines_at form (2 ^ 32 - 1) (2 ^ 32 - 1) 0 0 (pairs_in entries) bytes shown.are

pub length-shown : (form : RowForm) (entries bytes : List ℕ) → ShowsLines form entries bytes → length entries ≡ 8 * length (lines_shown form entries bytes)
length-shown form entries bytes shown =
    shown.whole ∙ ap (λ (n : ℕ). 8 * n) (sym (length-lines_at form 0 (pairs_in entries) bytes))

-- ---- the parts of bytes

-- the number in front of bytes is the number of rows
pub line_count-number : (n : ℕ) (bytes rest : List ℕ) → n < 2 ^ 32 → bytes ≡ to_le_bytes w32 n ++ rest → line_count bytes ≡ n
line_count-number n bytes rest fits spelled = ap line_count spelled ∙ from_le_bytes-to_le_bytes_4 n fits

pub IsSlice-parts : (form : RowForm) (rows columns : ℕ) (bytes : List ℕ) → HasEntries bytes → AreEntries form rows columns 0 0 (pairs_in (entry_part bytes)) (row_part bytes) → IsSlice form rows columns bytes
IsSlice-parts form rows columns bytes has entries =
    record { counted = has.counted; some = has.some; room = has.room; entries = entries }

pub HasEntries-slice : (form : RowForm) (rows columns : ℕ) (bytes : List ℕ) → IsSlice form rows columns bytes → HasEntries bytes
HasEntries-slice form rows columns bytes slice = record { counted = slice.counted; some = slice.some; room = slice.room }
