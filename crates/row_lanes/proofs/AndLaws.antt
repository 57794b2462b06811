-- Laws of words of which only the bits of other words are left.
use Rattle.std.proofs.Common.{◌≡◌, ◌≢◌, ℕ, ◌+◌, ◌-◌, ◌<◌, ◌≤◌, List, length, get_or, slice_set as set, refl, sym, ap, ◌∙◌, inl, inr, ◌⊎◌, arith, get_or-set_other, get_or-set_same, bit_and}
use Rattle.std.proofs.lemmas.Bool.{cases_lt}
use Rattle.std.proofs.lemmas.List.{get_or_past}
use Rattle.std.specs.Int.Bits.{and_zero_l, and_zero_r}
use Rattle.std.proofs.lemmas.Simd.{length-chunk, get_or-chunk, get_or-put_chunk_below, get_or-put_chunk_at, get_or-put_chunk_above, get_or-zip2, length-zip2}
use Rattle.std.specs.Simd.Lanes.{chunk, put_chunk, zip2}
use Rattle.row_lanes.specs.WordByWord.{IsAndBetween, IsCutAt}

-- four words that are computed as lanes
pub IsAndBetween-four : (at : ℕ) (old other : List ℕ) → at + 4 ≤ length old → at + 4 ≤ length other → IsAndBetween at (at + 4) old other (put_chunk at old (zip2 bit_and (chunk at 4 old) (chunk at 4 other)))
IsAndBetween-four at old other room other_room =
    let xs = chunk at 4 old in
    let ys = chunk at 4 other in
    let long : length xs ≡ 4 = length-chunk at 4 old room in
    let other_long : length ys ≡ 4 = length-chunk at 4 other other_room in
    let both : length (zip2 bit_and xs ys) ≡ 4 = length-zip2 bit_and xs ys (omega arith) ∙ long in
    record {
      below = λ k lt. get_or-put_chunk_below at old _ k 0 lt;
      within = λ k low high.
          let j = k - at in
          let j_lt : j < 4 = omega arith in
          let place : at + j ≡ k = omega arith in
          ap (λ n. get_or (put_chunk at old (zip2 bit_and xs ys)) n 0) (sym place)
          ∙ get_or-put_chunk_at at old (zip2 bit_and xs ys) j 0 (omega arith) (omega arith)
          ∙ get_or-zip2 bit_and xs ys j 0 0 0 (omega arith) (omega arith)
          ∙ ap (λ x. bit_and x (get_or ys j 0)) (get_or-chunk at 4 old j 0 j_lt)
          ∙ ap (λ y. bit_and (get_or old (at + j) 0) y) (get_or-chunk at 4 other j 0 j_lt)
          ∙ ap (λ n. bit_and (get_or old n 0) (get_or other n 0)) place;
      above = λ k le. get_or-put_chunk_above at old _ k 0 (omega arith);
    }

-- one word
pub IsAndBetween-one : (i : ℕ) (old other : List ℕ) → i < length old → IsAndBetween i (i + 1) old other (set old i (bit_and (get_or old i 0) (get_or other i 0)))
IsAndBetween-one i old other room = record {
  below = λ k lt. let apart : k ≢ i = omega arith in rw get_or-set_other refl;
  within = λ k low high. let same : k ≡ i = omega arith in rw (same, get_or-set_same) refl;
  above = λ k le. let apart : k ≢ i = omega arith in rw get_or-set_other refl;
}

pub IsAndBetween-none : (low high : ℕ) (old other : List ℕ) → high ≤ low → IsAndBetween low high old other old
IsAndBetween-none low high old other none =
    record { below = λ k lt. refl; within = λ k le lt. absurd (omega arith); above = λ k le. refl }

-- a part, and the part behind it
pub IsAndBetween-then : (low middle high : ℕ) (old other new newer : List ℕ) → low ≤ middle → middle ≤ high → IsAndBetween low middle old other new → IsAndBetween middle high new other newer → IsAndBetween low high old other newer
IsAndBetween-then low middle high old other new newer up on front back = record {
  below = λ k lt. back.below k (omega arith) ∙ front.below k lt;
  within = λ k le lt.
      elim (cases_lt k middle) [
        | inl before ↦ back.below k before ∙ front.within k le before
        | inr behind ↦ back.within k behind lt ∙ ap (λ x. bit_and x (get_or other k 0)) (front.above k behind)
      ];
  above = λ k le. back.above k le ∙ front.above k (omega arith);
}

-- the words that are in both lists, and none behind them
pub and_words_from : (low high : ℕ) (old other front back new : List ℕ) → low ≤ high → (length old ≤ high) ⊎ (length other ≤ high) → IsAndBetween 0 low old other front → IsAndBetween low high front other back → IsCutAt high back new → (k : ℕ) → get_or new k 0 ≡ bit_and (get_or old k 0) (get_or other k 0)
and_words_from low high old other front back new up ends first second cut k =
    let whole = IsAndBetween-then 0 low high old other front back (omega arith) up first second in
    elim (cases_lt k high) [
      | inl shared ↦ cut.below k shared ∙ whole.within k (omega arith) shared
      | inr behind ↦ cut.above k behind ∙ sym (elim ends [
        | inl short ↦ ap (λ x. bit_and x (get_or other k 0)) (get_or_past old k 0 (omega arith)) ∙ and_zero_l (get_or other k 0)
        | inr short ↦ ap (λ x. bit_and (get_or old k 0) x) (get_or_past other k 0 (omega arith)) ∙ and_zero_r (get_or old k 0)
      ])
    ]
