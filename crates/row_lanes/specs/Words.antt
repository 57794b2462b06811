-- A slice of words, seen as a set of numbers: number n is bit n mod 64 of word n / 64.
use Rattle.std.specs.Prelude.{◌≡◌, ℕ, ◌*◌, ◌/◌, ◌%◌, ◌<◌, ◌≤◌, ◌==◌, List, length, filter, slice_index, Contains}
use Rattle.std.specs.Int.{bit_at}
use Rattle.std.specs.List.{range_with_len}

-- the bit of the number n, 0 where there is no word for it
abbrev pub bit_of : List ℕ → ℕ → ℕ
bit_of words n = bit_at (slice_index words (n / 64)) (n % 64)

-- the number n is in the set
abbrev pub Has : List ℕ → ℕ → Type 0
Has words n = bit_of words n ≡ 1

-- the numbers of the set, in ascending order
abbrev pub numbers_in : List ℕ → List ℕ
numbers_in words = filter (λ n. bit_of words n == 1) (range_with_len 0 (64 * length words))

-- the number is one of the run from start on, before end
abbrev pub IsInRun : ℕ → ℕ → ℕ → Type 0
IsInRun start end n = (start ≤ n) × (n < end)

-- one of the numbers of the list is in the set
abbrev pub Meets : List ℕ → List ℕ → Type 0
Meets words xs = (n : ℕ) × Contains xs n × Has words n
