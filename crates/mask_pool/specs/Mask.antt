-- A mask: where it lies among the words of a region. Its words are a set of numbers, as those of `row_lanes` are.
use Rattle.std.specs.Prelude.{◌≡◌, ℕ, ◌+◌, ◌-◌, ◌/◌, ◌<◌, ◌≤◌, min}

-- where a mask lies: the place of its first word, and how many bits it has
pub record Stretch : Type 0 where
  pub start : ℕ
  pub bits : ℕ

-- how many words so many bits take
abbrev pub words_for : ℕ → ℕ
words_for bits = (bits + 63) / 64

-- the place after its last word
abbrev pub end_of : Stretch → ℕ
end_of m = m.start + words_for m.bits

-- the word in this place is the mask's
abbrev pub HasWord : Stretch → ℕ → Type 0
HasWord m place = (m.start ≤ place) × (place < end_of m)

-- one of the two ends before the other begins: it reaches by 0 words past the start of the other
abbrev pub DoNotOverlap : Stretch → Stretch → Type 0
DoNotOverlap a b = min (end_of a - b.start) (end_of b - a.start) ≡ 0
