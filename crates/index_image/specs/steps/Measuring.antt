-- Carries proofs only: how long an image is, before it is made.
use Rattle.std.specs.Prelude.{◌≡◌, ℕ, ◌+◌, ◌*◌, ◌^◌, ◌<◌, ◌≤◌, List, ◌++◌, length, map, Result, Ok, Err}
use Rattle.byte_tables.specs.Numbers.{number_bytes}
use Rattle.byte_tables.specs.Pieces.{joined, starts_of}
use Rattle.run_rows.specs.declared.form.RowForm.{RowForm}
use Rattle.term_numbers.specs.Numbering.{Numbering, term_table}
use Rattle.index_file.specs.Image.{all_pairs, pair_slice}
use Rattle.index_file.specs.Layout.{Layout}
use Rattle.index_file.specs.Version.{numbering_bytes}
use Rattle.index_image.specs.declared.fault.ImageFault.{ImageFault}
use Rattle.index_image.specs.declared.fault.ImageFault.TheVariants.{TooLong, Memory}
use Rattle.index_image.specs.declared.measure.Lengths.{Lengths}

-- a length is found, or is too long for four bytes
abbrev pub IsEnd : ℕ → Result ℕ ImageFault → Type 0
IsEnd end (Ok n) = (n ≡ end) × (end < 2 ^ 32)
IsEnd end (Err TooLong) = 2 ^ 32 ≤ end
IsEnd end (Err Memory) = Unit {0}

-- a limit is found of a length, or it is too long for four bytes
abbrev pub IsMost : ℕ → Result ℕ ImageFault → Type 0
IsMost end (Ok n) = (end ≤ n) × (n < 2 ^ 32)
IsMost end (Err TooLong) = 2 ^ 32 ≤ end
IsMost end (Err Memory) = Unit {0}

-- the bytes of the slices of a numbering
abbrev pub slice_part_of : RowForm → Numbering → List ℕ
slice_part_of form n = joined (map (pair_slice form) (all_pairs n))

-- where the slices of a numbering begin
abbrev pub slices_at : Numbering → ℕ
slices_at n = 44 + 4 * (length (term_table n.terms) + 1) + length (joined (term_table n.terms)) + 4 * (length (all_pairs n) + 1)

-- what is known before the image is made
pub record AreLengths (form : RowForm) (n : Numbering) (lengths : Lengths) : Type 0 where
  pub texts : lengths.texts ≡ length (joined (term_table n.terms))
  pub slices_at : lengths.slices_at ≡ slices_at n
  pub short : length (numbering_bytes form n) < 2 ^ 32

abbrev pub IsMeasured : RowForm → Numbering → Result Lengths ImageFault → Type 0
IsMeasured form n (Ok lengths) = AreLengths form n lengths
IsMeasured form n (Err TooLong) = 2 ^ 32 ≤ length (numbering_bytes form n)
IsMeasured form n (Err Memory) = Unit {0}

-- the bytes after the head: the texts and the slices, each after their starts
abbrev pub tables_of : Layout → List ℕ
tables_of l = number_bytes (starts_of l.texts) ++ (joined l.texts ++ (number_bytes (starts_of l.slices) ++ joined l.slices))
