-- What a shape lists: lines, each a first number with the second numbers that stand beside it.
use Rattle.std.specs.Prelude.{◌↔◌, ℕ, ◌==◌, ◌&&◌, List, [], ◌∷◌, Option, Some, None, Bool, true, false, if◌then◌else◌, nat_lt, Contains}
use Rattle.cube_slices.specs.Lines.{Line, line_of}
use Rattle.pattern_rel.specs.declared.shape.Shape.{Shape}
use Rattle.pattern_rel.specs.declared.shape.Shape.TheVariants.{Nothing, Ground, OneRow, Column, Pairs, Diagonal}

-- the list has the number
abbrev pub lists : List ℕ → ℕ → Bool
lists [] n = false
lists (x ∷ xs) n = if x == n then true else lists xs n

-- the lines that pass a test, each with one number beside it
abbrev pub lines_that : (Line → Bool) → (Line → ℕ) → List Line → List Line
lines_that test number [] = []
lines_that test number (l ∷ ls) =
    if test l then record { row = l.row; columns = number l ∷ [] } ∷ lines_that test number ls else lines_that test number ls

-- each number of a row, with 0 beside it
abbrev pub row_lines : List ℕ → List Line
row_lines [] = []
row_lines (x ∷ xs) = record { row = x; columns = 0 ∷ [] } ∷ row_lines xs

-- the rows that have a column, with 0 beside them
abbrev pub column_lines : ℕ → List Line → List Line
column_lines column ls = lines_that (λ l. lists l.columns column) (λ l. 0) ls

-- the rows below a number that have themselves as a column
abbrev pub diagonal_lines : ℕ → List Line → List Line
diagonal_lines shared ls = lines_that (λ l. nat_lt l.row shared && lists l.columns l.row) (λ l. l.row) ls

-- the lines of a shape
abbrev pub lines_of_shape : Shape → List Line
lines_of_shape Nothing = []
lines_of_shape Ground = record { row = 0; columns = 0 ∷ [] } ∷ []
lines_of_shape (OneRow row) = row_lines row
lines_of_shape (Column slice column) = column_lines column slice
lines_of_shape (Pairs rows columns) = rows
lines_of_shape (Diagonal slice shared) = diagonal_lines shared slice

-- the numbers, if there are any
abbrev pub numbers_or_none : Option (List ℕ) → List ℕ
numbers_or_none None = []
numbers_or_none (Some xs) = xs

-- what stands beside the first number n
abbrev pub row_of : ℕ → List Line → List ℕ
row_of n ls = numbers_or_none (line_of n ls)

-- each pair of the one is a pair of the other, turned
abbrev pub AreTransposed : List Line → List Line → Type 0
AreTransposed ls ms = (n c : ℕ) → Contains (row_of n ls) c ↔ Contains (row_of c ms) n

-- the columns of a shape, where it has them, are the transpose of its rows
abbrev pub KnowsColumns : Shape → Type 0
KnowsColumns Nothing = Unit {0}
KnowsColumns Ground = Unit {0}
KnowsColumns (OneRow row) = Unit {0}
KnowsColumns (Column slice column) = Unit {0}
KnowsColumns (Pairs rows None) = Unit {0}
KnowsColumns (Pairs rows (Some columns)) = AreTransposed rows columns
KnowsColumns (Diagonal slice shared) = Unit {0}
