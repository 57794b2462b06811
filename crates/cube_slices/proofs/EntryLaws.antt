-- Laws of entries: the lines, and the entries with the bytes of the rows, determine each other.
use Rattle.std.proofs.Common.{◌≡◌, ◌↔◌, ℕ, ◌+◌, ◌-◌, ◌^◌, ◌<◌, ◌≤◌, List, [], ◌∷◌, ◌++◌, length, take, drop, refl, sym, ap, ◌∙◌, suc, arith, length-append}
use Rattle.std.proofs.lemmas.List.{length-take, length-drop, take_at, drop_at, take-append-drop}
use Rattle.byte_tables.specs.Pairs.{PairsFit32}
use Rattle.run_rows.specs.declared.form.RowForm.{RowForm}
use Rattle.run_rows.specs.Encoding.{row_bytes, row_numbers, IsEncoding}
use Rattle.run_rows.proofs.EncodingLaws.{length-row_bytes-some, row_numbers-row_bytes, IsEncoding-from_encodes, Encodes-wider}
use Rattle.cube_slices.specs.Lines.{Line, LinesAscend}
use Rattle.cube_slices.specs.Slices.{bytes_of_line, bytes_of_lines, entries_of, lines_at, AreEntries}
use Rattle.cube_slices.specs.steps.Shown.{IsEntry}

-- ---- from lines

-- one entry a line
pub length-entries_of : (form : RowForm) (from : ℕ) (ls : List Line) → length (entries_of form from ls) ≡ length ls
length-entries_of form from [] = refl
length-entries_of form from (l ∷ ls) = ap suc (length-entries_of form (from + length (bytes_of_line form l)) ls)

-- what was written is read again
pub lines_at-entries_of : (form : RowForm) (low rows columns from : ℕ) (ls : List Line) → columns < 2 ^ 32 → LinesAscend low rows columns ls → lines_at form from (entries_of form from ls) (bytes_of_lines form ls) ≡ ls
lines_at-entries_of form low rows columns from [] small ascend = refl
lines_at-entries_of form low rows columns from (l ∷ ls) small ascend =
    let bytes = bytes_of_line form l in
    let end = from + length bytes in
    let gap : end - from ≡ length bytes = omega arith in
    let back : row_numbers form bytes ≡ l.columns = row_numbers-row_bytes form columns l.columns small ascend.2 in
    let behind = lines_at-entries_of form (l.row + 1) rows columns end ls small ascend.3 in
    rw (gap, take_at bytes (bytes_of_lines form ls) (length bytes) refl, drop_at bytes (bytes_of_lines form ls) (length bytes) refl)
    (let both : record { row = l.row; columns = row_numbers form bytes } ∷ lines_at form end (entries_of form end ls) (bytes_of_lines form ls) ≡ l ∷ ls = λ i. record { row = l.row; columns = back i } ∷ behind i in both)

-- lines in order have entries in order
pub AreEntries-entries_of : (form : RowForm) (low rows columns from : ℕ) (ls : List Line) → columns < 2 ^ 32 → LinesAscend low rows columns ls → AreEntries form rows columns low from (entries_of form from ls) (bytes_of_lines form ls)
AreEntries-entries_of form low rows columns from [] small ascend = refl
AreEntries-entries_of form low rows columns from (l ∷ ls) small ascend =
    let bytes = bytes_of_line form l in
    let end = from + length bytes in
    let gap : end - from ≡ length bytes = omega arith in
    let encoding : IsEncoding form columns bytes = IsEncoding-from_encodes form columns bytes l.columns (record { row = ascend.2; spelled = refl }) small in
    let behind = AreEntries-entries_of form (l.row + 1) rows columns end ls small ascend.3 in (
      ascend.0,
      ascend.1,
      omega (arith, length-row_bytes-some form l.columns ascend.2.some),
      omega (arith, length-append bytes (bytes_of_lines form ls)),
      rw (gap, take_at bytes (bytes_of_lines form ls) (length bytes) refl) encoding,
      rw (gap, drop_at bytes (bytes_of_lines form ls) (length bytes) refl) behind,
    )

-- the numbers of entries fit in four bytes
pub PairsFit32-entries_of : (form : RowForm) (low rows columns from : ℕ) (ls : List Line) → rows < 2 ^ 32 → from + length (bytes_of_lines form ls) < 2 ^ 32 → LinesAscend low rows columns ls → PairsFit32 (entries_of form from ls)
PairsFit32-entries_of form low rows columns from [] small short ascend = tt
PairsFit32-entries_of form low rows columns from (l ∷ ls) small short ascend =
    let all = length-append (bytes_of_line form l) (bytes_of_lines form ls) in
    (omega (arith, ascend.1), omega arith, PairsFit32-entries_of form (l.row + 1) rows columns (from + length (bytes_of_line form l)) ls small (omega arith) ascend.3)

-- ---- from entries

-- one line an entry
pub length-lines_at : (form : RowForm) (from : ℕ) (es : List (ℕ × ℕ)) (bytes : List ℕ) → length (lines_at form from es bytes) ≡ length es
length-lines_at form from [] bytes = refl
length-lines_at form from (e ∷ es) bytes = ap suc (length-lines_at form e.1 es (drop (e.1 - from) bytes))

-- the rows of entries take the bytes between their ends
row_of_entry : (form : RowForm) (columns from end : ℕ) (bytes : List ℕ) → from < end → end ≤ from + length bytes → IsEncoding form columns (take (end - from) bytes) → from + length (row_bytes form (row_numbers form (take (end - from) bytes))) ≡ end
row_of_entry form columns from end bytes up within encoding =
    omega (arith, ap length encoding.spelled, length-take (end - from) bytes)

-- what was read is written again: the entries, and the bytes of the rows
pub entries_of-lines_at : (form : RowForm) (rows columns low from : ℕ) (es : List (ℕ × ℕ)) (bytes : List ℕ) → AreEntries form rows columns low from es bytes → entries_of form from (lines_at form from es bytes) ≡ es
entries_of-lines_at form rows columns low from [] bytes are = refl
entries_of-lines_at form rows columns low from (e ∷ es) bytes are =
    let end = row_of_entry form columns from e.1 bytes are.2 are.3 are.4 in
    let behind = entries_of-lines_at form rows columns (e.0 + 1) e.1 es (drop (e.1 - from) bytes) are.5 in
    rw end (ap (λ (qs : List (ℕ × ℕ)). e ∷ qs) behind)

pub bytes_of-lines_at : (form : RowForm) (rows columns low from : ℕ) (es : List (ℕ × ℕ)) (bytes : List ℕ) → AreEntries form rows columns low from es bytes → bytes_of_lines form (lines_at form from es bytes) ≡ bytes
bytes_of-lines_at form rows columns low from [] bytes are = sym (empty bytes are)
  where
    empty : (bs : List ℕ) → length bs ≡ 0 → bs ≡ []
    empty [] none = refl
    empty (b ∷ bs) none = absurd (omega arith)
bytes_of-lines_at form rows columns low from (e ∷ es) bytes are =
    let behind = bytes_of-lines_at form rows columns (e.0 + 1) e.1 es (drop (e.1 - from) bytes) are.5 in
    let front = sym are.4.spelled in
    let both : row_bytes form (row_numbers form (take (e.1 - from) bytes)) ++ bytes_of_lines form (lines_at form e.1 es (drop (e.1 - from) bytes)) ≡ take (e.1 - from) bytes ++ drop (e.1 - from) bytes = λ i. front i ++ behind i in
    both ∙ take-append-drop (e.1 - from) bytes

-- entries in order have lines in order
pub LinesAscend-lines_at : (form : RowForm) (rows columns low from : ℕ) (es : List (ℕ × ℕ)) (bytes : List ℕ) → AreEntries form rows columns low from es bytes → LinesAscend low rows columns (lines_at form from es bytes)
LinesAscend-lines_at form rows columns low from [] bytes are = tt
LinesAscend-lines_at form rows columns low from (e ∷ es) bytes are =
    (are.0, are.1, are.4.row, LinesAscend-lines_at form rows columns (e.0 + 1) e.1 es (drop (e.1 - from) bytes) are.5)

-- the bytes of the rows end where the last entry says, so they are short
pub entries_are_short : (form : RowForm) (rows columns low from : ℕ) (es : List (ℕ × ℕ)) (bytes : List ℕ) → from < 2 ^ 32 → PairsFit32 es → AreEntries form rows columns low from es bytes → from + length bytes < 2 ^ 32
entries_are_short form rows columns low from [] bytes small fit are = omega arith
entries_are_short form rows columns low from (e ∷ es) bytes small fit are =
    let behind = entries_are_short form rows columns (e.0 + 1) e.1 es (drop (e.1 - from) bytes) fit.1 fit.2 are.5 in
    omega (arith, are.2, are.3, length-drop (e.1 - from) bytes)

-- entries from some row on are entries from any row before it
pub AreEntries-lower : (form : RowForm) (rows columns low mid from : ℕ) (es : List (ℕ × ℕ)) (bytes : List ℕ) → low ≤ mid → AreEntries form rows columns mid from es bytes → AreEntries form rows columns low from es bytes
AreEntries-lower form rows columns low mid from [] bytes at_mid are = are
AreEntries-lower form rows columns low mid from (e ∷ es) bytes at_mid are = (omega (arith, are.0), are.1, are.2, are.3, are.4, are.5)

-- entries for so many rows and columns are entries for more
pub AreEntries-wider : (form : RowForm) (rows columns tall wide low from : ℕ) (es : List (ℕ × ℕ)) (bytes : List ℕ) → rows ≤ tall → columns ≤ wide → AreEntries form rows columns low from es bytes → AreEntries form tall wide low from es bytes
AreEntries-wider form rows columns tall wide low from [] bytes taller wider are = are
AreEntries-wider form rows columns tall wide low from (e ∷ es) bytes taller wider are = (
  are.0,
  omega (arith, are.1),
  are.2,
  are.3,
  Encodes-wider form columns wide (take (e.1 - from) bytes) (row_numbers form (take (e.1 - from) bytes)) wider are.4,
  AreEntries-wider form rows columns tall wide (e.0 + 1) e.1 es (drop (e.1 - from) bytes) taller wider are.5,
)

-- the first entry and those behind it
pub AreEntries-first : (form : RowForm) (rows columns low from : ℕ) (e : ℕ × ℕ) (all es : List (ℕ × ℕ)) (bytes : List ℕ) → all ≡ e ∷ es → AreEntries form rows columns low from all bytes ↔ (IsEntry form rows columns low from e bytes × AreEntries form rows columns (e.0 + 1) e.1 es (drop (e.1 - from) bytes))
AreEntries-first form rows columns low from e all es bytes split = rw split (
  λ are. (record { at_low = are.0; row_within = are.1; up = are.2; within = are.3; row = are.4 }, are.5),
  λ (first, behind). (first.at_low, first.row_within, first.up, first.within, first.row, behind),
)
