-- What can be told of slices: whether starts cut all bytes, and whether bytes are slices.
use Rattle.std.proofs.Common.{inl, inr, ℕ, ◌+◌, ◌-◌, ◌*◌, List, [], ◌∷◌, length, take, drop}
use Rattle.std.proofs.lemmas.Bool.{cases_eq}
use Rattle.byte_tables.specs.Pairs.{pairs_in}
use Rattle.byte_tables.specs.Pieces.{AscendTo, CutWhole}
use Rattle.cube_slices.specs.Slices.{line_count, entry_part, row_part, AreEntries, IsSlice}
use Rattle.run_rows.specs.Encoding.{row_bytes, row_numbers, IsEncoding}
use Rattle.run_rows.specs.Row.{AscendsWithin, IsRow}
use Rattle.run_rows.specs.declared.form.RowForm.{RowForm}
use Rattle.index_file.proofs.DecidedLaws.{Decided, through, both, all_three, decided_less, decided_at_most, decided_same_list}
use Rattle.index_file.specs.Conditions.{AreSlices}

decided_AscendTo : (last from : ℕ) (ends : List ℕ) → Decided (AscendTo last from ends)
decided_AscendTo last from [] = cases_eq from last
decided_AscendTo last from (e ∷ es) = both (decided_less from e) (decided_AscendTo last e es)

pub decided_CutWhole : (last : ℕ) (starts : List ℕ) → Decided (CutWhole last starts)
decided_CutWhole last [] = inr (λ none. none)
decided_CutWhole last (s ∷ es) = both (cases_eq s 0) (decided_AscendTo last s es)

decided_AscendsWithin : (low columns : ℕ) (xs : List ℕ) → Decided (AscendsWithin low columns xs)
decided_AscendsWithin low columns [] = inl tt
decided_AscendsWithin low columns (x ∷ xs) =
    all_three (decided_at_most low x) (decided_less x columns) (decided_AscendsWithin (x + 1) columns xs)

decided_IsRow : (columns : ℕ) (xs : List ℕ) → Decided (IsRow columns xs)
decided_IsRow columns xs =
    through (both (decided_less 0 (length xs)) (decided_AscendsWithin 0 columns xs))
    (λ h. record { some = h.0; ascends = h.1 }) (λ h. (h.some, h.ascends))

decided_IsEncoding : (form : RowForm) (columns : ℕ) (bytes : List ℕ) → Decided (IsEncoding form columns bytes)
decided_IsEncoding form columns bytes =
    let xs = row_numbers form bytes in
    through (both (decided_IsRow columns xs) (decided_same_list bytes (row_bytes form xs)))
    (λ h. record { row = h.0; spelled = h.1 }) (λ h. (h.row, h.spelled))

decided_AreEntries : (form : RowForm) (rows columns low from : ℕ) (entries : List (ℕ × ℕ)) (bytes : List ℕ) → Decided (AreEntries form rows columns low from entries bytes)
decided_AreEntries form rows columns low from [] bytes = cases_eq (length bytes) 0
decided_AreEntries form rows columns low from (e ∷ es) bytes =
    through
    (both (all_three (decided_at_most low e.0) (decided_less e.0 rows) (decided_less from e.1))
    (all_three (decided_at_most e.1 (from + length bytes)) (decided_IsEncoding form columns (take (e.1 - from) bytes))
    (decided_AreEntries form rows columns (e.0 + 1) e.1 es (drop (e.1 - from) bytes))))
    (λ h. (h.0.0, h.0.1, h.0.2, h.1.0, h.1.1, h.1.2)) (λ h. ((h.0, h.1, h.2), (h.3, h.4, h.5)))

decided_IsSlice : (form : RowForm) (rows columns : ℕ) (bytes : List ℕ) → Decided (IsSlice form rows columns bytes)
decided_IsSlice form rows columns bytes =
    through
    (both (both (decided_at_most 4 (length bytes)) (decided_less 0 (line_count bytes)))
    (both (decided_at_most (4 + 8 * line_count bytes) (length bytes))
    (decided_AreEntries form rows columns 0 0 (pairs_in (entry_part bytes)) (row_part bytes))))
    (λ h. record { counted = h.0.0; some = h.0.1; room = h.1.0; entries = h.1.1 })
    (λ h. ((h.counted, h.some), (h.room, h.entries)))

pub decided_AreSlices : (form : RowForm) (rows columns : ℕ) (slices : List (List ℕ)) → Decided (AreSlices form rows columns slices)
decided_AreSlices form rows columns [] = inl tt
decided_AreSlices form rows columns (s ∷ ss) = both (decided_IsSlice form rows columns s) (decided_AreSlices form rows columns ss)
