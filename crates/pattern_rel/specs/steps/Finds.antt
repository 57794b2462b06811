-- Carries proofs only: what is found: the first of the pairs left that is wanted.
use Rattle.std.specs.Prelude.{◌≡◌, ◌↔◌, ℕ, ◌<◌, ◌≤◌, ◌-◌, ◌^◌, List, Option, Some, None, true, Contains}
use Rattle.row_lanes.specs.Words.{Has}
use Rattle.cube_slices.specs.Lines.{Line}
use Rattle.cube_slices.specs.Pairs.{ComesBefore}
use Rattle.pattern_rel.specs.declared.bound.Pair.{Pair}
use Rattle.pattern_rel.specs.Shapes.{row_of}
use Rattle.pattern_rel.specs.Bounds.{is_wanted, is_after}

-- the pair is left of the lines
pub record IsPairLeft (firsts seconds : List ℕ) (ls : List Line) (n c : ℕ) : Type 0 where
  pub first : Has firsts n
  pub second : Has seconds c
  pub there : Contains (row_of n ls) c

-- a pair left that is wanted, and none before it is; or there is none
abbrev pub IsFound : Option ℕ → Option ℕ → Option Pair → List ℕ → List ℕ → List Line → Option Pair → Type 0
IsFound first second after firsts seconds ls None =
    (n c : ℕ) → IsPairLeft firsts seconds ls n c → is_wanted (record { first = first; second = second }) after (n, c) ≡ true → ⊥
IsFound first second after firsts seconds ls (Some p) =
    IsPairLeft firsts seconds ls p.first p.second
    × (is_wanted (record { first = first; second = second }) after (p.first, p.second) ≡ true)
    × ((n c : ℕ) → IsPairLeft firsts seconds ls n c → is_wanted (record { first = first; second = second }) after (n, c) ≡ true → ComesBefore (n, c) (p.first, p.second) → ⊥)

-- with the first number n, the pairs after the last one are those whose second number is not below at
abbrev pub StartsInRow : Option Pair → ℕ → ℕ → Type 0
StartsInRow after n at = (c : ℕ) → c < 2 ^ 32 - 1 → (is_after after (n, c) ≡ true) ↔ (at ≤ c)

-- with the second number c, the pairs after the last one are those whose first number is not below from
abbrev pub StartsInColumn : Option Pair → ℕ → ℕ → Type 0
StartsInColumn after c from = (n : ℕ) → n < 2 ^ 32 - 1 → (is_after after (n, c) ≡ true) ↔ (from ≤ n)

-- the least number of the set from some number on that has c beside it, or none where there is none
abbrev pub IsNextRow : ℕ → List ℕ → List Line → ℕ → Option ℕ → Type 0
IsNextRow from firsts ls c None = (m : ℕ) → Has firsts m → Contains (row_of m ls) c → m < from
IsNextRow from firsts ls c (Some n) = (from ≤ n) × Has firsts n × Contains (row_of n ls) c × ((m : ℕ) → Has firsts m → Contains (row_of m ls) c → from ≤ m → n ≤ m)
