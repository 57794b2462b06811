-- Parts of a list of words, after some of the words were written.
use Rattle.std.proofs.Common.{◌≡◌, ℕ, ◌+◌, ◌-◌, ◌≤◌, min, max, List, ◌++◌, length, take, drop, slice_range, arith, rules, length-take, length-drop}
use Rattle.std.proofs.lemmas.List.{same_lists, places}

-- words with ws written over them from s on
abbrev over : List ℕ → ℕ → List ℕ → List ℕ
over xs s ws = take s xs ++ (ws ++ drop (length ws) (drop s xs))

-- the same, cut or filled up from xs to its length
abbrev pub refilled : ℕ → List ℕ → ℕ → List ℕ → List ℕ
refilled len xs s ws = take len (over xs s ws ++ drop (length (over xs s ws)) xs)

pub length-refilled : (len : ℕ) (xs ws : List ℕ) (s : ℕ) → length xs ≡ len → length (refilled len xs s ws) ≡ len
length-refilled len xs ws s fits = search (rules, places)

-- the words up to t after words from s on were written
pub take-refilled : (len : ℕ) (xs ws : List ℕ) (s t : ℕ) → length xs ≡ len → t ≤ len → s ≤ t → take t (refilled len xs s ws) ≡ take (length (take t xs)) (take s (take t xs) ++ ws ++ drop (s + length ws) (take t xs))
take-refilled len xs ws s t fits before inside = same_lists _ _ (search (rules, places)) (λ k d h. grind (arith, places))

-- a part before what is written
pub part-refilled_before : (len : ℕ) (xs ws : List ℕ) (s t more a e : ℕ) → length xs ≡ len → s ≡ t → t + more ≤ len → length ws ≡ more → e ≤ t → take (e - a) (drop a (take (t + more) (refilled len xs s ws))) ≡ take (e - a) (drop a (take t xs))
part-refilled_before len xs ws s t more a e fits at before size inside = same_lists _ _ (search (rules, places)) (λ k d h. grind (arith, places))

-- a part that is cut in two
module _ (xs ys : List ℕ) (start mid end : ℕ) (is : ys ≡ slice_range xs start end) (ordered : start ≤ mid) (below : mid ≤ end) (inside : end ≤ length xs) where
  pub length-range : length ys ≡ end - start
  length-range = rw is (simp (length-take, length-drop) (omega arith))

  pub range-front : take (mid - start) ys ≡ slice_range xs start mid
  range-front = rw is (same_lists _ _ (search (rules, places)) (λ k d h. grind (arith, places)))

  pub range-back : drop (mid - start) ys ≡ slice_range xs mid end
  range-back = rw is (same_lists _ _ (search (rules, places)) (λ k d h. grind (arith, places)))

-- what was written, and a part apart from it
module _ (xs ws : List ℕ) (s : ℕ) where
  abbrev pub spliced : List ℕ
  spliced = take (length xs) (take s xs ++ ws ++ drop (s + length ws) xs)

  pub length-spliced : s ≤ length xs → length spliced ≡ length xs
  length-spliced inside = search (rules, places)

  pub part-spliced : (e : ℕ) → s + length ws ≡ e → e ≤ length xs → take (e - s) (drop s spliced) ≡ ws
  part-spliced e size inside = same_lists _ _ (search (rules, places)) (λ k d h. grind (arith, places))

  pub part-spliced_apart : (e a b : ℕ) → s + length ws ≡ e → e ≤ length xs → b ≤ length xs → min b e ≤ max a s → take (b - a) (drop a spliced) ≡ take (b - a) (drop a xs)
  part-spliced_apart e a b size inside within apart = same_lists _ _ (search (rules, places)) (λ k d h. grind (arith, places))
