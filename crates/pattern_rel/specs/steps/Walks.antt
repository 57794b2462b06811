-- Carries proofs only: the pairs left, from some number on.
use Rattle.std.specs.Prelude.{ℕ, ◌&&◌, List, [], ◌++◌, map, filter, if◌then◌else◌, nat_le}
use Rattle.cube_slices.specs.Lines.{Line}
use Rattle.pattern_rel.specs.Left.{is_in, left_in}
use Rattle.pattern_rel.specs.Shapes.{row_of}

-- the numbers of a list that are in the set, and those of them that are not below another
abbrev pub those_in : List ℕ → List ℕ → List ℕ
those_in words xs = filter (is_in words) xs

abbrev pub those_from : ℕ → List ℕ → List ℕ → List ℕ
those_from at words xs = filter (λ n. nat_le at n && is_in words n) xs

-- the numbers as pairs with a first number
abbrev pub beside : ℕ → List ℕ → List (ℕ × ℕ)
beside n xs = map {B = ℕ × ℕ} (λ c. (n, c)) xs

-- the pairs left whose first number is not below another
abbrev pub left_from : ℕ → List ℕ → List ℕ → List Line → List (ℕ × ℕ)
left_from from firsts seconds ls = filter (λ p. nat_le from p.0) (left_in firsts seconds ls)

-- what stands beside a first number, where the set has it
abbrev pub open_row : List ℕ → ℕ → List Line → List ℕ
open_row firsts n ls = if is_in firsts n then row_of n ls else []

-- what is left of an open row from a number on, and the pairs left from a first number on
abbrev pub open_left : ℕ → ℕ → List ℕ → ℕ → List ℕ → List ℕ → List Line → List (ℕ × ℕ)
open_left n at xs from firsts seconds ls = beside n (those_from at seconds xs) ++ left_from from firsts seconds ls
