-- Carries proofs only: what the loops find and leave, over sets of numbers.
use Rattle.std.specs.Prelude.{◌≡◌, ℕ, ◌<◌, ◌≤◌, List, [], ◌∷◌, Option, Some, None, Contains}
use Rattle.row_lanes.specs.Words.{Has, Meets}
use Rattle.cube_slices.specs.Lines.{Line}
use Rattle.pattern_rel.specs.declared.partners.Partners.{Partners}
use Rattle.pattern_rel.specs.declared.partners.Partners.TheVariants.{Nobody, One, Row}
use Rattle.pattern_rel.specs.Shapes.{row_of}

-- the least number of the set that is not below n, or none where there is none
abbrev pub IsNext : ℕ → List ℕ → Option ℕ → Type 0
IsNext n words None = (m : ℕ) → Has words m → m < n
IsNext n words (Some x) = (n ≤ x) × Has words x × ((m : ℕ) → Has words m → n ≤ m → x ≤ m)

-- the least number of the list that is in the set and not below n, or none where there is none
abbrev pub IsNextBoth : ℕ → List ℕ → List ℕ → Option ℕ → Type 0
IsNextBoth n words xs None = (m : ℕ) → Has words m → Contains xs m → m < n
IsNextBoth n words xs (Some x) = (n ≤ x) × Has words x × Contains xs x × ((m : ℕ) → Has words m → Contains xs m → n ≤ m → x ≤ m)

-- a number of the set that is not below n and has something beside it: none is before x, or there is none
abbrev pub IsCandidate : ℕ → List ℕ → List Line → Option ℕ → Type 0
IsCandidate n words ls None = (m : ℕ) → Has words m → n ≤ m → row_of m ls ≡ []
IsCandidate n words ls (Some x) = (n ≤ x) × Has words x × ((m : ℕ) → Has words m → n ≤ m → m < x → row_of m ls ≡ [])

-- the numbers of partners
abbrev pub partner_numbers : Partners → List ℕ
partner_numbers Nobody = []
partner_numbers (One c) = c ∷ []
partner_numbers (Row xs) = xs

-- the number stands beside a first number that is in the set
abbrev pub IsBeside : List ℕ → List Line → ℕ → Type 0
IsBeside firsts ls c = (n : ℕ) × Has firsts n × Contains (row_of n ls) c

-- no first number from low on and before high has a pair left
abbrev pub NoneBetween : ℕ → ℕ → List ℕ → List ℕ → List Line → Type 0
NoneBetween low high firsts seconds ls = (m : ℕ) → low ≤ m → m < high → Has firsts m → Meets seconds (row_of m ls) → ⊥
