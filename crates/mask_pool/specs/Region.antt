-- What a pool of masks is seen as, the masks that are live in it, and what a change leaves as it was.
use Rattle.std.specs.Prelude.{◌≡◌, ℕ, ◌+◌, ◌<◌, ◌≤◌, List, length, slice_range}
use Rattle.row_lanes.specs.Words.{Has}
use Rattle.mask_pool.specs.Mask.{Stretch, end_of, DoNotOverlap}

-- the words that were taken, in order, and how many are left
pub record Region : Type 0 where
  pub words : List ℕ
  pub spare : ℕ

-- how many words there are, taken or left
abbrev pub room_of : Region → ℕ
room_of p = length p.words + p.spare

-- the mask lies within the part that was taken
abbrev pub IsLive : Region → Stretch → Type 0
IsLive p m = end_of m ≤ length p.words

-- the words of a live mask
abbrev pub words_of : Region → Stretch → List ℕ
words_of p m = slice_range p.words m.start (end_of m)

-- the value of a live mask: the numbers below its bits whose bit is set in its words
abbrev pub IsIn : Region → Stretch → ℕ → Type 0
IsIn p m n = (n < m.bits) × Has (words_of p m) n

-- a mask that was live stays live, with the words that it had
pub record Stays (old new : Region) (m : Stretch) : Type 0 where
  pub live : IsLive new m
  pub words : words_of new m ≡ words_of old m

-- the mask has these words afterwards, every live mask that does not overlap it is as it was, and no mask ended
pub record Wrote (old new : Region) (m : Stretch) (ws : List ℕ) : Type 0 where
  pub words : words_of new m ≡ ws
  pub others : (other : Stretch) → IsLive old other → DoNotOverlap other m → Stays old new other
  pub live : (other : Stretch) → IsLive old other → IsLive new other
  pub spare : new.spare ≡ old.spare
  pub room : room_of new ≡ room_of old
