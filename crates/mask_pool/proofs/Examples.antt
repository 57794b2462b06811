-- Worked examples of the definitions.
use Rattle.std.proofs.Common.{◌≡◌, [], ◌∷◌, refl, lit<, lit≤, arith}
use Rattle.mask_pool.specs.Mask.{Stretch, words_for, DoNotOverlap}
use Rattle.mask_pool.specs.Region.{Region, room_of, IsLive, words_of, IsIn}
use Rattle.mask_pool.specs.Loan.{with_words}

-- a pool of five words, and the masks of 65 and 64 bits that were taken of it: the first has 0, 2 and 64, the second 63
abbrev first : Stretch
first = record { start = 0; bits = 65 }

abbrev second : Stretch
second = record { start = 2; bits = 64 }

abbrev pool : Region
pool = record { words = 5 ∷ 1 ∷ 0x8000_0000_0000_0000 ∷ []; spare = 2 }

room : room_of pool ≡ 5
room = refl

words_for_no_bits : words_for 0 ≡ 0
words_for_no_bits = refl

words_for_65_bits : words_for 65 ≡ 2
words_for_65_bits = refl

-- both are live, and a third mask would not be
second_is_live : IsLive pool second
second_is_live = lit≤ tt

third_is_not_live : IsLive pool (record { start = 3; bits = 1 }) → ⊥
third_is_not_live live = omega (arith, live)

-- they do not overlap, and a mask that begins one word before the end of the first does
apart : DoNotOverlap first second
apart = refl

overlapping : DoNotOverlap first (record { start = 1; bits = 64 }) → ⊥
overlapping none = omega (arith, none)

-- a mask of no bits may begin where another ends
no_bits_are_apart : DoNotOverlap first (record { start = 2; bits = 0 })
no_bits_are_apart = refl

-- their words and numbers
words_of_first : words_of pool first ≡ 5 ∷ 1 ∷ []
words_of_first = refl

has_two : IsIn pool first 2
has_two = (lit< tt, refl)

has_64 : IsIn pool first 64
has_64 = (lit< tt, refl)

has_not_one : IsIn pool first 1 → ⊥
has_not_one has = omega (arith, has.1)

has_63 : IsIn pool second 63
has_63 = (lit< tt, refl)

-- the second with nothing in it: the first stays
second_cleared : with_words pool 2 (0 ∷ []) ≡ record { words = 5 ∷ 1 ∷ 0 ∷ []; spare = 2 }
unfolding with_words
second_cleared = refl

first_written : with_words pool 0 (7 ∷ 0 ∷ []) ≡ record { words = 7 ∷ 0 ∷ 0x8000_0000_0000_0000 ∷ []; spare = 2 }
unfolding with_words
first_written = refl
