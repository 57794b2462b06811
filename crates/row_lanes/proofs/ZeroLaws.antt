-- Laws of words that are 0.
use Rattle.std.proofs.Common.{◌≡◌, ◌↔◌, ℕ, ◌+◌, ◌≤◌, List, [], ◌∷◌, length, get_or, refl, sym, ◌∙◌, true, false, not, eqb, eqb-true, map, arith}
use Rattle.std.proofs.lemmas.Simd.{length-chunk, get_or-chunk, none_from_empty_mask, Each1-from_get_or}
use Rattle.std.specs.Simd.Lanes.{chunk, mask_l, Each1}
use Rattle.row_lanes.specs.WordByWord.{AreZeroBetween}

zero_from_test : (word : ℕ) → not (eqb word 0) ≡ false → word ≡ 0
zero_from_test word test =
    eqb-true word 0 (elim (eqb word 0) as (λ b. not b ≡ false → b ≡ true) [ true ↦ λ _. refl | false ↦ λ e. absurd (cc) ] test)

mask_l-zeros : (words : List ℕ) → Each1 (λ word. word ≡ 0) words → mask_l (map (λ word. not (eqb word 0)) words) ≡ 0
mask_l-zeros [] zeros = refl
mask_l-zeros (word ∷ words) zeros =
    let first = zeros.0 in
    let rest = mask_l-zeros words zeros.1 in
    rw (first, rest) refl

-- no lane of four words is set exactly where they are 0
pub mask_l-zero_block : (at mask : ℕ) (words : List ℕ) → at + 4 ≤ length words → mask ≡ mask_l (map (λ word. not (eqb word 0)) (chunk at 4 words)) → (mask ≡ 0) ↔ AreZeroBetween at (at + 4) words
mask_l-zero_block at mask words room lanes =
    let four = length-chunk at 4 words room in (
      λ none k low high. zero_from_test (get_or words k 0) (none_from_empty_mask (λ word. not (eqb word 0)) words at 4 0 room (sym lanes ∙ none) k low high),
      λ zero. lanes ∙ mask_l-zeros (chunk at 4 words) (Each1-from_get_or (λ word. word ≡ 0) (chunk at 4 words) 0 (λ i lt. get_or-chunk at 4 words i 0 (omega arith) ∙ zero (at + i) (omega arith) (omega arith))),
    )
