-- What the loops do, word by word.
use Rattle.std.specs.Prelude.{◌≡◌, ◌≢◌, ◌↔◌, ℕ, ◌+◌, ◌*◌, ◌<◌, ◌≤◌, List, length, Option, Some, None, slice_index, bit_and}
use Rattle.std.specs.Int.{bit_at}
use Rattle.row_lanes.specs.Words.{IsInRun}

-- From word low up to word high the new words are those of old and of other, bit by bit. All others are as before.
pub record IsAndBetween (low high : ℕ) (old other new : List ℕ) : Type 0 where
  pub below : (k : ℕ) → k < low → slice_index new k ≡ slice_index old k
  pub within : (k : ℕ) → low ≤ k → k < high → slice_index new k ≡ bit_and (slice_index old k) (slice_index other k)
  pub above : (k : ℕ) → high ≤ k → slice_index new k ≡ slice_index old k

-- The words before from are as before, and the others are 0.
pub record IsCutAt (from : ℕ) (old new : List ℕ) : Type 0 where
  pub below : (k : ℕ) → k < from → slice_index new k ≡ slice_index old k
  pub above : (k : ℕ) → from ≤ k → slice_index new k ≡ 0

-- from word low up to word high all words are 0
abbrev pub AreZeroBetween : ℕ → ℕ → List ℕ → Type 0
AreZeroBetween low high words = (k : ℕ) → low ≤ k → k < high → slice_index words k ≡ 0

-- the place of the first word from word from on that is not 0, or none where all are 0
abbrev pub IsFirstSet : ℕ → List ℕ → Option ℕ → Type 0
IsFirstSet from words None = AreZeroBetween from (length words) words
IsFirstSet from words (Some i) = (from ≤ i) × (i < length words) × (slice_index words i ≢ 0) × AreZeroBetween from i words

-- the bits of the word are those of the numbers of the run that lie in the word at this place
pub record IsRunPart (place start end word : ℕ) : Type 0 where
  pub bits : (i : ℕ) → i < 64 → (bit_at word i ≡ 1) ↔ IsInRun start end (64 * place + i)
