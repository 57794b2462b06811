-- Worked examples of the definitions.
use Rattle.std.proofs.Common.{◌≡◌, ℕ, List, [], ◌∷◌, Some, None, filter, find, refl}
use Rattle.cube_slices.specs.Lines.{Line, pairs_of}
use Rattle.pattern_rel.specs.declared.side.Side.TheVariants.{First}
use Rattle.pattern_rel.specs.Shapes.{row_lines, column_lines, diagonal_lines}
use Rattle.pattern_rel.specs.Left.{left_in}
use Rattle.pattern_rel.specs.Folds.{is_kept}
use Rattle.pattern_rel.specs.Bounds.{is_wanted, seconds_beside}

abbrev line : ℕ → List ℕ → Line
line row columns = record { row = row; columns = columns }

-- the slice of the one predicate of a graph of two triples
abbrev two_lines : List Line
two_lines = line 0 (1 ∷ []) ∷ line 1 (0 ∷ []) ∷ []

-- with two full masks of 2 bits all pairs are left, and with a first mask of 1 alone the pair (1, 0)
all_left : left_in (3 ∷ []) (3 ∷ []) two_lines ≡ (0, 1) ∷ (1, 0) ∷ []
all_left = refl

one_left : left_in (2 ∷ []) (3 ∷ []) two_lines ≡ (1, 0) ∷ []
one_left = refl

-- by the set {0, 1} below 1
cut : filter (is_kept First (3 ∷ []) (Some 1)) ((0, 1) ∷ (1, 0) ∷ []) ≡ (0, 1) ∷ []
cut = refl

-- the next pair with the second number 1, and that there is none after it
next : find (is_wanted (record { first = None; second = Some 1 }) None) ((0, 1) ∷ (1, 0) ∷ []) ≡ Some (0, 1)
next = refl

no_more : find (is_wanted (record { first = None; second = Some 1 }) (Some (record { first = 0; second = 1 }))) ((0, 1) ∷ (1, 0) ∷ []) ≡ None
no_more = refl

beside_one : seconds_beside 1 ((0, 1) ∷ (1, 0) ∷ (1, 4) ∷ []) ≡ 0 ∷ 4 ∷ []
beside_one = refl

-- of the lines of rows 1, 2 and 5: a row by itself, the column 4, and the diagonal below 5
of_row : pairs_of (row_lines (1 ∷ 2 ∷ 5 ∷ [])) ≡ (1, 0) ∷ (2, 0) ∷ (5, 0) ∷ []
of_row = refl

of_column : column_lines 4 (line 1 (1 ∷ 4 ∷ []) ∷ line 2 (2 ∷ []) ∷ line 5 (4 ∷ 5 ∷ []) ∷ []) ≡ line 1 (0 ∷ []) ∷ line 5 (0 ∷ []) ∷ []
of_column = refl

of_diagonal : diagonal_lines 5 (line 1 (1 ∷ 4 ∷ []) ∷ line 2 (2 ∷ []) ∷ line 5 (4 ∷ 5 ∷ []) ∷ []) ≡ line 1 (1 ∷ []) ∷ line 2 (2 ∷ []) ∷ []
of_diagonal = refl
