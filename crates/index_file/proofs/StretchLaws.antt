-- Laws of texts that are next to one another in a list.
use Rattle.std.proofs.Common.{◌≡◌, ℕ, ◌+◌, ◌<◌, ◌≤◌, List, [], ◌∷◌, length, get_or, take, drop, sym, ap, ◌∙◌, arith}
use Rattle.std.proofs.lemmas.List.{length-take, length-drop, get_or-take, get_or-drop, drop_more}

-- so many as are taken
pub length-stretch : (first count : ℕ) (xs : List (List ℕ)) → first + count ≤ length xs → length (take count (drop first xs)) ≡ count
length-stretch first count xs within = omega (arith, length-take count (drop first xs), length-drop first xs)

-- the text in a place is that of the list, from the first on
pub piece_of_stretch : (first count i : ℕ) (x : List ℕ) (xs : List (List ℕ)) → i < count → get_or xs (first + i) [] ≡ x → get_or (take count (drop first xs)) i [] ≡ x
piece_of_stretch first count i x xs low is = get_or-take count (drop first xs) i [] low ∙ get_or-drop first xs i [] ∙ is

-- and what follows it
pub stretch_from : (i : ℕ) (x : List ℕ) (xs : List (List ℕ)) → i < length xs → get_or xs i [] ≡ x → drop i xs ≡ x ∷ drop (i + 1) xs
stretch_from i x xs low is = drop_more xs i [] low ∙ ap (λ y. y ∷ drop (i + 1) xs) is

-- a number of a list that was read from its place
pub number_there : (i n : ℕ) (xs after : List ℕ) → drop i xs ≡ n ∷ after → n ≡ get_or xs i 0
number_there i n xs after at =
    let no_more : i + 0 ≡ i = omega arith in
    sym (ap (λ l. get_or l 0 0) at) ∙ get_or-drop i xs 0 0 ∙ ap (λ k. get_or xs k 0) no_more
