-- Carries proofs only: rows and pairs of one family that stand in another.
use Rattle.std.specs.Prelude.{◌≡◌, ℕ, ◌+◌, List, [], ◌∷◌, Some, Contains, map, slice_index_or}
use Rattle.cube_slices.specs.Lines.{Line, line_of, pairs_of}
use Rattle.cube_slices.specs.Slices.{slice_lines}
use Rattle.run_rows.specs.declared.form.RowForm.{RowForm}
use Rattle.index_file.specs.Image.{group_in}
use Rattle.index_file.specs.Layout.{Layout}
use Rattle.index_file.specs.declared.family.Family.{Family}
use Rattle.index_file.specs.declared.family.Family.TheVariants.{So, Os, Ps, Po}

-- the lines of the slices of a family
abbrev pub lines_in : RowForm → Layout → Family → List (List Line)
lines_in form l f = map (slice_lines form) (group_in l f)

-- ---- whole rows

-- each row of slice n stands with its columns as row n of that slice of the others whose number is the row's
abbrev pub LinesMatch : ℕ → List (List Line) → List Line → Type 0
LinesMatch n others [] = Unit {0}
LinesMatch n others (l ∷ ls) = (line_of n (slice_index_or others l.row []) ≡ Some l.columns) × LinesMatch n others ls

-- and so in each slice from n on
abbrev pub RowsMatch : ℕ → List (List Line) → List (List Line) → Type 0
RowsMatch n others [] = Unit {0}
RowsMatch n others (ls ∷ lss) = LinesMatch n others ls × RowsMatch (n + 1) others lss

-- ---- pairs

-- each column of row r of slice n is the number of a slice of the others that has row n and column r
abbrev pub ColumnsStand : ℕ → ℕ → List (List Line) → List ℕ → Type 0
ColumnsStand n r others [] = Unit {0}
ColumnsStand n r others (c ∷ cs) = Contains (pairs_of (slice_index_or others c [])) (n, r) × ColumnsStand n r others cs

-- and so in each row of the slice
abbrev pub LinesStand : ℕ → List (List Line) → List Line → Type 0
LinesStand n others [] = Unit {0}
LinesStand n others (l ∷ ls) = ColumnsStand n l.row others l.columns × LinesStand n others ls

-- and so in each slice from n on
abbrev pub PairsStand : ℕ → List (List Line) → List (List Line) → Type 0
PairsStand n others [] = Unit {0}
PairsStand n others (ls ∷ lss) = LinesStand n others ls × PairsStand (n + 1) others lss

-- ---- both

-- The rows of O-S are rows of P-S, those of S-O are rows of P-O, and the pairs of S-O stand in P-S.
pub record RowsAgree (form : RowForm) (l : Layout) : Type 0 where
  pub os_in_ps : RowsMatch 0 (lines_in form l Ps) (lines_in form l Os)
  pub so_in_po : RowsMatch 0 (lines_in form l Po) (lines_in form l So)
  pub so_in_ps : PairsStand 0 (lines_in form l Ps) (lines_in form l So)
