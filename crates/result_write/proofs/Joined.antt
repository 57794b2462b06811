-- Lists that are joined item by item.
use Rattle.std.proofs.Common.{◌≡◌, ℕ, ◌+◌, ◌≤◌, ◌++◌, ◌==◌, false, if◌then◌else◌, List, [], ◌∷◌, length, take, map, get_or, slice_get, Some, refl, arith, append_assoc, sym, ◌∙◌, ap}
use Rattle.std.proofs.lemmas.List.{take_all, take_more, map-append, length-map, length-take}
use Rattle.std.proofs.lemmas.Grind.{common_steps}
use Rattle.std.specs.List.{join_with_byte}
use Rattle.std.proofs.lemmas.Option.{slice_get_within, get_or_from_slice_get}

-- a list that was changed item by item, with one more item
pub map-take_more : {X Y : Type 0} (f : X → Y) (xs : List X) (i : ℕ) (x : X) → slice_get xs i ≡ Some x → map f (take (i + 1) xs) ≡ map f (take i xs) ++ f x ∷ []
map-take_more f xs i x h =
    ap (map f) (take_more xs i x (slice_get_within xs i x h)) ∙ map-append f (take i xs) (get_or xs i x ∷ [])
    ∙ ap (λ y. map f (take i xs) ++ f y ∷ []) (get_or_from_slice_get xs i x x h)

-- parts with one more at the end
join-next : (c : ℕ) (p : List ℕ) (parts : List (List ℕ)) (part : List ℕ) → join_with_byte c (p ∷ (parts ++ part ∷ [])) ≡ join_with_byte c (p ∷ parts) ++ c ∷ part
join-next c p [] part = refl
join-next c p (q ∷ parts) part =
    ap (λ rest. p ++ c ∷ rest) (join-next c q parts part) ∙ sym (append_assoc p (c ∷ join_with_byte c (q ∷ parts)) (c ∷ part))

join-more : (c : ℕ) (parts : List (List ℕ)) (part : List ℕ) → join_with_byte c (parts ++ part ∷ []) ≡ join_with_byte c parts ++ (if length parts == 0 then part else c ∷ part)
join-more c [] part = refl
join-more c (p ∷ parts) part =
    let some : (length (p ∷ parts) == 0) ≡ false = grind (arith, common_steps) in
    rw some (join-next c p parts part)

-- a line with one more part, behind the separator if it is not the first
pub join-take_more : {X : Type 0} (c : ℕ) (before : List ℕ) (f : X → List ℕ) (xs : List X) (i : ℕ) (x : X) → slice_get xs i ≡ Some x
    → (before ++ join_with_byte c (map f (take i xs))) ++ (if i == 0 then f x else c ∷ f x) ≡ before ++ join_with_byte c (map f (take (i + 1) xs))
join-take_more c before f xs i x h =
    let more = map-take_more f xs i x h in
    let far : length (map f (take i xs)) ≡ i = simp (length-map, length-take) (omega (arith, slice_get_within xs i x h)) in
    let joined = join-more c (map f (take i xs)) (f x) in
    rw (more, append_assoc) (ap (λ rest. before ++ rest) (sym (rw far at joined)))

-- all parts, and the end of the line
pub line_done : {X : Type 0} (c end : ℕ) (before text after : List ℕ) (f : X → List ℕ) (xs : List X) (i : ℕ) → length xs ≤ i → text ≡ before ++ join_with_byte c (map f (take i xs)) → after ≡ text ++ end ∷ []
    → after ≡ before ++ (join_with_byte c (map f xs) ++ end ∷ [])
line_done c end before text after f xs i all is is_after =
    is_after ∙ ap (λ text. text ++ end ∷ []) (is ∙ ap (λ ys. before ++ join_with_byte c (map f ys)) (take_all i xs all))
    ∙ append_assoc before (join_with_byte c (map f xs)) (end ∷ [])

-- what is changed twice
pub map_twice : {X Y Z : Type 0} (g : Y → Z) (f : X → Y) (xs : List X) → map g (map f xs) ≡ map (λ x. g (f x)) xs
map_twice g f [] = refl
map_twice g f (x ∷ xs) = ap (λ rest. g (f x) ∷ rest) (map_twice g f xs)
