-- Worked examples of the definitions.
use Rattle.std.proofs.Common.{◌≡◌, ℕ, List, [], ◌∷◌, Some, None, refl, lit<, inl, inr, arith}
use Rattle.byte_tables.specs.Pairs.{pair_bytes, pairs_in}
use Rattle.run_rows.specs.declared.form.RowForm.TheVariants.{V1}
use Rattle.run_rows.specs.Encoding.{run_bytes, row_bytes, runs_in, row_numbers}
use Rattle.cube_slices.specs.Lines.{Line, AreLines, line_of, pairs_of}
use Rattle.cube_slices.specs.Pairs.{ArePairs, lines_of}
use Rattle.cube_slices.specs.Slices.{slice_bytes, slice_lines}

abbrev line : ℕ → List ℕ → Line
line row columns = record { row = row; columns = columns }

-- (0, 1) and (1, 0), which is the slice of the one predicate in the graph of two triples
abbrev two_pairs : List (ℕ × ℕ)
two_pairs = (0, 1) ∷ (1, 0) ∷ []

abbrev two_lines : List Line
two_lines = line 0 (1 ∷ []) ∷ line 1 (0 ∷ []) ∷ []

of_pairs : lines_of two_pairs ≡ two_lines
of_pairs = refl

-- pairs of one row are one line
of_one_row : lines_of ((3, 1) ∷ (3, 4) ∷ (7, 1) ∷ []) ≡ line 3 (1 ∷ 4 ∷ []) ∷ line 7 (1 ∷ []) ∷ []
of_one_row = refl

of_lines : pairs_of (line 3 (1 ∷ 4 ∷ []) ∷ line 7 (1 ∷ []) ∷ []) ≡ (3, 1) ∷ (3, 4) ∷ (7, 1) ∷ []
of_lines = refl

ascending : ArePairs 2 2 two_pairs
ascending = record { some = lit< tt; ascend = (lit< tt, lit< tt, inl (lit< tt), (lit< tt, lit< tt, tt, tt)) }

-- a pair that stands twice does not ascend
twice : ArePairs 2 2 ((0, 1) ∷ (0, 1) ∷ []) → ⊥
twice pairs = elim pairs.ascend.2 [ inl less ↦ omega arith | inr (same, less) ↦ omega arith ]

-- a line of no column
no_column : AreLines 2 2 (line 0 [] ∷ []) → ⊥
no_column lines = omega (arith, lines.ascend.2.some)

there : line_of 1 two_lines ≡ Some (0 ∷ [])
there = refl

not_there : line_of 2 two_lines ≡ None
not_there = refl

-- two rows; their entries (0, 8) and (1, 16); and the runs (1, 1) and (0, 1)
abbrev bytes : List ℕ
bytes =
    2 ∷ 0 ∷ 0 ∷ 0 ∷ 0 ∷ 0 ∷ 0 ∷ 0 ∷ 8 ∷ 0 ∷ 0 ∷ 0 ∷ 1 ∷ 0 ∷ 0 ∷ 0 ∷ 16 ∷ 0 ∷ 0 ∷ 0
    ∷ 1 ∷ 0 ∷ 0 ∷ 0 ∷ 1 ∷ 0 ∷ 0 ∷ 0 ∷ 0 ∷ 0 ∷ 0 ∷ 0 ∷ 1 ∷ 0 ∷ 0 ∷ 0 ∷ []

to_bytes : slice_bytes V1 two_lines ≡ bytes
unfolding slice_bytes pair_bytes row_bytes run_bytes
to_bytes = refl

from_bytes : slice_lines V1 bytes ≡ two_lines
unfolding slice_lines pairs_in row_numbers runs_in
from_bytes = refl
