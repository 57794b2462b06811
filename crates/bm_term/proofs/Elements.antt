-- Which items a list has, by its first item and its rest.
use Rattle.std.proofs.Common.{◌≡◌, ℕ, zero, suc, ◌<◌, ◌⊎◌, inl, inr, List, [], ◌∷◌, length, get_or, Contains, refl, arith}
use Rattle.std.proofs.lemmas.List.Elements.{Contains-append_right}

-- a list has its first item
pub Contains-head : {X : Type 0} (x : X) (xs : List X) → Contains (x ∷ xs) x
Contains-head x xs = (0, omega arith, refl)

-- and those of its rest
pub Contains-tail : {X : Type 0} (x : X) (xs : List X) (y : X) → Contains xs y → Contains (x ∷ xs) y
Contains-tail x xs y = Contains-append_right (x ∷ []) xs y

-- what stands at k is the first item, or stands in the rest
at_cons : {X : Type 0} (x : X) (xs : List X) (y : X) (k : ℕ) → k < length (x ∷ xs) → get_or (x ∷ xs) k y ≡ y → (x ≡ y) ⊎ Contains xs y
at_cons x xs y zero within is = inl is
at_cons x xs y (suc k) within is = inr (k, omega arith, is)

-- an item is the first, or one of the rest
pub Contains-cons_cases : {X : Type 0} (x : X) (xs : List X) (y : X) → Contains (x ∷ xs) y → (x ≡ y) ⊎ Contains xs y
Contains-cons_cases x xs y h = at_cons x xs y h.0 h.1 h.2

-- the empty list has no item
pub Contains-nil : {X : Type 0} (y : X) → Contains [] y → ⊥
Contains-nil y h = let within = h.1 in omega arith

-- a list of one item has no other
pub Contains-single : {X : Type 0} (x y : X) → Contains (x ∷ []) y → x ≡ y
Contains-single x y h = elim (Contains-cons_cases x [] y h) as (λ _. x ≡ y) [ inl e ↦ e | inr none ↦ absurd (Contains-nil y none) ]
