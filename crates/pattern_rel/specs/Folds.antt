-- When masks can be folded, what a call leaves as it was, and what unfolding keeps.
use Rattle.std.specs.Prelude.{ℕ, ◌<◌, ◌≤◌, ◌^◌, ◌&&◌, List, Option, Some, None, Bool, true, nat_lt}
use Rattle.mask_pool.specs.Mask.{Stretch, words_for, DoNotOverlap}
use Rattle.mask_pool.specs.Region.{Region, IsLive, words_of, Wrote}
use Rattle.pattern_rel.specs.Left.{is_in, number_at}
use Rattle.pattern_rel.specs.declared.side.Side.{Side}

-- the mask is live, and has at most 2^31 bits
pub record IsUsable (pool : Region) (mask : Stretch) : Type 0 where
  pub live : IsLive pool mask
  pub few : words_for mask.bits ≤ 2 ^ 25

-- the masks of a relation and the mask that is handed in are usable, and it overlaps neither of them
pub record CanFold (pool : Region) (own beside handed : Stretch) : Type 0 where
  pub first : IsUsable pool own
  pub second : IsUsable pool beside
  pub into : IsUsable pool handed
  pub first_apart : DoNotOverlap handed own
  pub second_apart : DoNotOverlap handed beside

-- no mask ended, and each live mask that does not overlap this one has the words that it had
abbrev pub Keeps : Region → Region → Stretch → Type 0
Keeps old new mask = Wrote old new mask (words_of new mask)

-- the number is below the cut, if there is one
abbrev pub is_below : Option ℕ → ℕ → Bool
is_below None n = true
is_below (Some cut) n = nat_lt n cut

abbrev pub IsBelow : Option ℕ → ℕ → Type 0
IsBelow None n = Unit {0}
IsBelow (Some cut) n = n < cut

-- the number of a pair at the side is in the set and below the cut
abbrev pub is_kept : Side → List ℕ → Option ℕ → ℕ × ℕ → Bool
is_kept side by cut p = is_in by (number_at side p) && is_below cut (number_at side p)
