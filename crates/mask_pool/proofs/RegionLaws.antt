-- What the words of a pool say of the region that it is seen as.
use Rattle.std.proofs.Common.{◌≡◌, ℕ, ◌+◌, ◌-◌, ◌≤◌, List, ◌++◌, length, take, drop, slice_range, arith, rules, ap, length-take}
use Rattle.std.proofs.lemmas.List.{same_lists, places}
use Rattle.mask_pool.specs.Mask.{Stretch, end_of}
use Rattle.mask_pool.specs.Region.{Region, IsLive, Stays}
use Rattle.mask_pool.specs.Loan.{with_words}
use Rattle.mask_pool.proofs.PartLaws.{refilled, length-refilled, take-refilled, part-refilled_before}

-- the region of these words, of which so many are taken
abbrev pub region : ℕ → List ℕ → ℕ → Region
region len words taken = record { words = take taken words; spare = len - taken }

-- the end of a live mask is not past the words taken
pub live_end : (len : ℕ) (words : List ℕ) (taken : ℕ) (p : Region) (m : Stretch) → region len words taken ≡ p → IsLive p m → end_of m ≤ taken
live_end len words taken p m is live =
    let size : length (take taken words) ≡ length p.words = ap (λ q. length q.words) is in
    omega (arith, length-take taken words)

-- words that are written over some of the words taken are with_words of the region
pub region-refilled : (len : ℕ) (words ws : List ℕ) (taken start : ℕ) (p : Region) → region len words taken ≡ p → length words ≡ len → taken ≤ len → start ≤ length p.words → region len (refilled len words start ws) taken ≡ with_words p start ws
unfolding with_words
region-refilled len words ws taken start p is size within inside =
    let all : length (take taken words) ≡ length p.words = ap (λ q. length q.words) is in
    let before : start ≤ taken = omega (arith, length-take taken words) in
    rw (← is) (ap (λ (l : List ℕ). record { words = l; spare = len - taken }) (take-refilled len words ws start taken size within before))

-- the words from start to end
pub range-region : (len : ℕ) (words : List ℕ) (taken start end : ℕ) (p : Region) → region len words taken ≡ p → end ≤ length p.words → slice_range words start end ≡ slice_range p.words start end
range-region len words taken start end p is inside =
    let all : length (take taken words) ≡ length p.words = ap (λ q. length q.words) is in
    let before : end ≤ taken = omega (arith, length-take taken words) in
    rw (← is) (same_lists _ _ (search (rules, places)) (λ k d h. grind (arith, places)))

-- a mask that was live stays as it was where words behind it are taken and written
pub stays-refilled : (len : ℕ) (words ws : List ℕ) (taken s more : ℕ) (p : Region) (m : Stretch) → region len words taken ≡ p → s ≡ taken → length words ≡ len → taken + more ≤ len → length ws ≡ more → IsLive p m → Stays p (region len (refilled len words s ws) (taken + more)) m
stays-refilled len words ws taken s more p m is at size within fits live =
    let end = live_end len words taken p m is live in
    let all = length-refilled len words ws s size in
    record {
      live = omega (arith, length-take (taken + more) (refilled len words s ws));
      words = rw (← is) (part-refilled_before len words ws s taken more m.start (end_of m) size at within fits end);
    }

-- words from start on, and then those that stand behind them, are those words alone
pub with_words-onto : (p : Region) (start end : ℕ) (ws : List ℕ) → start ≤ end → end ≤ length p.words → with_words p start (ws ++ drop (length ws) (slice_range p.words start end)) ≡ with_words p start ws
unfolding with_words
with_words-onto p start end ws ordered inside = ap (λ (l : List ℕ). record { words = l; spare = p.spare }) (same_lists _ _ (search (rules, places)) (λ k d h. grind (arith, places)))

-- the words that stand between start and mid, and then others, are the others from mid on
pub with_words-behind : (p : Region) (start mid : ℕ) (ws : List ℕ) → start ≤ mid → mid ≤ length p.words → with_words p start (slice_range p.words start mid ++ ws) ≡ with_words p mid ws
unfolding with_words
with_words-behind p start mid ws ordered inside = ap (λ (l : List ℕ). record { words = l; spare = p.spare }) (same_lists _ _ (search (rules, places)) (λ k d h. grind (arith, places)))
