-- Laws of encodings: a row has one spelling, and a spelling one row.
use Rattle.std.proofs.Common.{◌≡◌, ◌↔◌, ℕ, ◌+◌, ◌-◌, ◌*◌, ◌^◌, ◌<◌, ◌≤◌, List, [], ◌∷◌, length, refl, sym, ap, ◌∙◌, inl, inr, arith}
use Rattle.std.proofs.lemmas.Bool.{cases_eq}
use Rattle.std.specs.List.{flat_map}
use Rattle.run_rows.specs.declared.form.RowForm.{RowForm}
use Rattle.run_rows.specs.declared.form.RowForm.TheVariants.{V1}
use Rattle.run_rows.specs.declared.run.Run.{Run}
use Rattle.run_rows.specs.Row.{IsRow}
use Rattle.run_rows.specs.Runs.{members, with_first, runs_of, AreRuns}
use Rattle.run_rows.specs.Encoding.{run_bytes, row_bytes, runs_in, row_numbers, Encodes, IsEncoding, SpellsRuns}
use Rattle.run_rows.proofs.RowLaws.{IsRow-wider}
use Rattle.run_rows.proofs.RunLaws.{AreRuns-runs_of, AscendsWithin-members, members-runs_of, runs_of-members, length-members-cons, length-members-le, with_first-next, with_first-apart}
use Rattle.run_rows.proofs.ByteLaws.{runs_in-flat_map, SpellsRuns-flat_map, length-flat_map-run_bytes, length-runs}

-- a list has at most as many runs as numbers, and one at least where it has one number
length-with_first : (x : ℕ) (rs : List Run) → (length (with_first x rs) ≤ length rs + 1) × (0 < length (with_first x rs))
length-with_first x [] = (omega arith, omega arith)
length-with_first x (r ∷ rs) =
    elim (cases_eq (x + 1) r.start) [
      | inl e ↦ rw (with_first-next x r rs e) (omega arith, omega arith)
      | inr ne ↦ rw (with_first-apart x r rs ne) (omega arith, omega arith)
    ]

pub length-runs_of : (xs : List ℕ) → length (runs_of xs) ≤ length xs
length-runs_of [] = omega arith
length-runs_of (x ∷ xs) = omega (arith, (length-with_first x (runs_of xs)).0, length-runs_of xs)

-- a row has no more numbers than columns
pub length-row-le : (columns : ℕ) (xs : List ℕ) → IsRow columns xs → length xs ≤ columns
length-row-le columns xs row =
    omega (arith, ap length (members-runs_of xs), length-members-le 0 columns (runs_of xs) (AreRuns-runs_of 0 columns xs row.ascends))

some-runs_of : (xs : List ℕ) → 0 < length xs → 0 < length (runs_of xs)
some-runs_of [] some = absurd (omega arith)
some-runs_of (x ∷ xs) some = (length-with_first x (runs_of xs)).1

-- the bytes of a row are those of its runs
pub bytes_of_row : (form : RowForm) (xs : List ℕ) → row_bytes form xs ≡ flat_map run_bytes (runs_of xs)
unfolding row_bytes
bytes_of_row V1 xs = refl

-- a row has bytes, and no more than eight for each number
pub length-row_bytes-le : (form : RowForm) (xs : List ℕ) → length (row_bytes form xs) ≤ 8 * length xs
unfolding row_bytes
length-row_bytes-le V1 xs = omega (arith, length-flat_map-run_bytes (runs_of xs), length-runs_of xs)

pub length-row_bytes-some : (form : RowForm) (xs : List ℕ) → 0 < length xs → 0 < length (row_bytes form xs)
unfolding row_bytes
length-row_bytes-some V1 xs some = omega (arith, length-flat_map-run_bytes (runs_of xs), some-runs_of xs some)

-- what was written is read again
pub row_numbers-row_bytes : (form : RowForm) (columns : ℕ) (xs : List ℕ) → columns < 2 ^ 32 → IsRow columns xs → row_numbers form (row_bytes form xs) ≡ xs
unfolding row_bytes row_numbers
row_numbers-row_bytes V1 columns xs small row =
    ap members (runs_in-flat_map (runs_of xs) 0 columns small (AreRuns-runs_of 0 columns xs row.ascends)) ∙ members-runs_of xs

-- bytes that encode a row encode no other
pub row_numbers-encodes : (form : RowForm) (columns : ℕ) (bytes xs : List ℕ) → Encodes form columns bytes xs → columns < 2 ^ 32 → row_numbers form bytes ≡ xs
row_numbers-encodes form columns bytes xs encodes small =
    ap (row_numbers form) encodes.spelled ∙ row_numbers-row_bytes form columns xs small encodes.row

pub IsEncoding-from_encodes : (form : RowForm) (columns : ℕ) (bytes xs : List ℕ) → Encodes form columns bytes xs → columns < 2 ^ 32 → IsEncoding form columns bytes
IsEncoding-from_encodes form columns bytes xs encodes small = rw (row_numbers-encodes form columns bytes xs encodes small) encodes

-- an encoding of a row of so many columns is one of a row of more
pub Encodes-wider : (form : RowForm) (columns wide : ℕ) (bytes xs : List ℕ) → columns ≤ wide → Encodes form columns bytes xs → Encodes form wide bytes xs
Encodes-wider form columns wide bytes xs wider encodes =
    record { row = IsRow-wider columns wide xs wider encodes.row; spelled = encodes.spelled }

-- the encodings of rows are the bytes of runs in order, of one at least
pub runs_from_encoding : (form : RowForm) (columns : ℕ) (bytes : List ℕ) → IsEncoding form columns bytes → columns < 2 ^ 32 → (0 < length bytes) × SpellsRuns 0 columns bytes
unfolding row_bytes
runs_from_encoding V1 columns bytes encodes small =
    let xs = row_numbers V1 bytes in (
      omega (arith, ap length encodes.spelled, length-row_bytes-some V1 xs encodes.row.some),
      rw encodes.spelled (SpellsRuns-flat_map (runs_of xs) 0 columns small (AreRuns-runs_of 0 columns xs encodes.row.ascends)),
    )

-- runs in order have a number where there is one of them
some-members : (low columns : ℕ) (rs : List Run) → 0 < length rs → AreRuns low columns rs → 0 < length (members rs)
some-members low columns [] some fits = absurd (omega arith)
some-members low columns (r ∷ rs) some fits = omega (arith, length-members-cons r rs)

pub encoding_from_runs : (form : RowForm) (columns : ℕ) (bytes : List ℕ) → 0 < length bytes → SpellsRuns 0 columns bytes → IsEncoding form columns bytes
unfolding row_bytes row_numbers
encoding_from_runs V1 columns bytes some spells =
    let runs = runs_in bytes in
    let runs_some : 0 < length runs = omega (arith, length-runs 0 columns bytes spells) in
    record {
      row = record { some = some-members 0 columns runs runs_some spells.runs; ascends = AscendsWithin-members 0 columns runs spells.runs };
      spelled = spells.spelled ∙ ap (flat_map run_bytes) (sym (runs_of-members 0 columns runs spells.runs));
    }

-- ---- what a row that is read knows of its bytes

pub runs_of_row : (form : RowForm) (bytes : List ℕ) → IsEncoding form (2 ^ 32 - 1) bytes → SpellsRuns 0 (2 ^ 32 - 1) bytes
runs_of_row form bytes encoding = (runs_from_encoding form (2 ^ 32 - 1) bytes encoding (omega arith)).1

pub numbers_of_row : (form : RowForm) (bytes : List ℕ) → row_numbers form bytes ≡ members (runs_in bytes)
unfolding row_numbers
numbers_of_row V1 bytes = refl

-- the runs of a row that is read are those of its numbers
pub runs_of_numbers : (form : RowForm) (bytes : List ℕ) → IsEncoding form (2 ^ 32 - 1) bytes → runs_in bytes ≡ runs_of (row_numbers form bytes)
unfolding row_numbers
runs_of_numbers V1 bytes encoding =
    let spells = runs_of_row V1 bytes encoding in
    sym (runs_of-members 0 (2 ^ 32 - 1) (runs_in bytes) spells.runs)

-- two encodings of one form are the same bytes exactly where they are the same numbers
pub same_encodings : (form : RowForm) (columns wide : ℕ) (bytes others : List ℕ) → IsEncoding form columns bytes → IsEncoding form wide others → (bytes ≡ others) ↔ (row_numbers form bytes ≡ row_numbers form others)
same_encodings form columns wide bytes others one two =
    (λ same. ap (row_numbers form) same, λ same. one.spelled ∙ ap (row_bytes form) same ∙ sym two.spelled)

pub ruleset row_as_runs = (runs_of_row, numbers_of_row)
