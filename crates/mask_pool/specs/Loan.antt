-- What becomes of a pool when words that it lent to be written come back.
use Rattle.std.specs.Prelude.{ℕ, ◌+◌, List, ◌++◌, length, take, drop}
use Rattle.std.specs.Borrow.{Lends, MutBor, Fml, Array, u64}
use Rattle.mask_pool.specs.Mask.{Stretch}
use Rattle.mask_pool.specs.Region.{Region}
use Rattle.mask_pool.specs.contracts.pool.MaskPool.{the_row}

-- the pool with these words from the place start on, in place of as many of its own
unfoldable pub with_words : Region → ℕ → List ℕ → Region
with_words p start ws =
    record { words = take (length p.words) (take start p.words ++ ws ++ drop (start + length ws) p.words); spare = p.spare }

-- the pool ends with what was last in the words that were lent from start on
abbrev pub LendsWords : MutBor Region → ℕ → MutBor (List ℕ) → Fml
LendsWords pool start lent = Lends the_row (Array u64 0) pool lent (with_words pool.now start)

-- the pool ends with what was last in the mask's words
abbrev pub LendsMask : MutBor Region → Stretch → MutBor (List ℕ) → Fml
LendsMask pool m lent = LendsWords pool m.start lent
