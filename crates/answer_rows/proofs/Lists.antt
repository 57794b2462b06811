-- Lists, of any items.
use Rattle.std.proofs.Common.{◌≡◌, ℕ, ◌+◌, ◌<◌, ◌++◌, List, [], ◌∷◌, length, take, map, get_or, slice_get, Some, All, ◌∙◌, ap, sym, subst, arith}
use Rattle.std.proofs.lemmas.List.{take_more, map-append, get_or-map, length-map}
use Rattle.std.proofs.lemmas.Option.{slice_get_within, get_or_from_slice_get}

-- the first items, with one more
pub take-next : {X : Type 0} (xs : List X) (i : ℕ) (x : X) → slice_get xs i ≡ Some x → take i xs ++ x ∷ [] ≡ take (i + 1) xs
take-next xs i x h = sym (take_more xs i x (slice_get_within xs i x h) ∙ ap (λ y. take i xs ++ y ∷ []) (get_or_from_slice_get xs i x x h))

-- the first items, each changed, with one more
pub map-take_next : {X Y : Type 0} (f : X → Y) (xs : List X) (i : ℕ) (x : X) → slice_get xs i ≡ Some x → map f (take i xs) ++ f x ∷ [] ≡ map f (take (i + 1) xs)
map-take_next f xs i x h = sym (map-append f (take i xs) (x ∷ [])) ∙ ap (map f) (take-next xs i x h)

-- what holds of each changed item holds of each item of the changed list
pub All-map : {X Y : Type 0} (P : Y → Type 0) (f : X → Y) (xs : List X) (x : X) → ((x : X) → P (f x)) → All P (map f xs)
All-map P f xs x each k d lt =
    let within : k < length xs = omega (arith, lt, length-map xs f) in
    subst P (sym (get_or-map f xs k x d within)) (each (get_or xs k x))

-- what holds of each item holds of the one at a place
pub All-got : {X : Type 0} (P : X → Type 0) (xs : List X) (i : ℕ) (x : X) → All P xs → slice_get xs i ≡ Some x → P x
All-got P xs i x all h = subst P (get_or_from_slice_get xs i x x h) (all i x (slice_get_within xs i x h))
