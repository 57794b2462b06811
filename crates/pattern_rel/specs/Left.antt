-- The pairs that are left of a relation: those of its lines whose numbers are in its two masks.
use Rattle.std.specs.Prelude.{ℕ, ◌==◌, ◌&&◌, List, Bool, Contains, filter}
use Rattle.row_lanes.specs.Words.{bit_of}
use Rattle.mask_pool.specs.Mask.{Stretch}
use Rattle.mask_pool.specs.Region.{Region, words_of}
use Rattle.cube_slices.specs.Lines.{Line, pairs_of}
use Rattle.pattern_rel.specs.declared.side.Side.{Side}
use Rattle.pattern_rel.specs.declared.side.Side.TheVariants.{First, Second}

-- the number is in the set
abbrev pub is_in : List ℕ → ℕ → Bool
is_in words n = bit_of words n == 1

-- both numbers of the pair are in their sets
abbrev pub is_left : List ℕ → List ℕ → ℕ × ℕ → Bool
is_left firsts seconds p = is_in firsts p.0 && is_in seconds p.1

-- the pairs of lines that two sets leave, in the order of the lines
abbrev pub left_in : List ℕ → List ℕ → List Line → List (ℕ × ℕ)
left_in firsts seconds ls = filter (is_left firsts seconds) (pairs_of ls)

-- a relation: lines, and a mask for each side
pub record Relation : Type 0 where
  pub lines : List Line
  pub first : Stretch
  pub second : Stretch

-- the pairs left of a relation whose masks are in a pool
abbrev pub pairs_left : Region → Relation → List (ℕ × ℕ)
pairs_left pool rel = left_in (words_of pool rel.first) (words_of pool rel.second) rel.lines

-- the mask of a side, and that of the other side
abbrev pub own_of : Side → Relation → Stretch
own_of First rel = rel.first
own_of Second rel = rel.second

abbrev pub other_of : Side → Relation → Stretch
other_of First rel = rel.second
other_of Second rel = rel.first

-- the number of a pair at a side
abbrev pub number_at : Side → ℕ × ℕ → ℕ
number_at First p = p.0
number_at Second p = p.1

-- the number stands at that side of one of the pairs
abbrev pub IsAtSide : Side → List (ℕ × ℕ) → ℕ → Type 0
IsAtSide First ps n = (c : ℕ) × Contains ps (n, c)
IsAtSide Second ps c = (n : ℕ) × Contains ps (n, c)
