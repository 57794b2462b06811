-- Passes over pairs of members. Each member holds items, and items of two members agree or not. To reduce a member by
-- another is to keep those of its items that agree with some item of the other. In constraint solving this is a revision,
-- and two passes along a tree make it arc consistent.
use Rattle.std.specs.Prelude.{◌≡◌, Bool, if◌then◌else◌, List, [], ◌∷◌, Option, Some, None}

module _ {M I : Type 0} (agree : M → I → M → I → Type 0) where
  -- the member holds an item that agrees with this one of the other
  abbrev pub HasPartner : (M → I → Type 0) → M → M → I → Type 0
  HasPartner held member other j = (i : I) × held member i × agree member i other j

  -- what is held once a member is reduced by another
  abbrev pub reduce : M → M → (M → I → Type 0) → M → I → Type 0
  reduce by member held k j = held k j × (k ≡ member → HasPartner held by k j)

  -- the first pass takes the pairs in order, and reduces the second member of each
  abbrev pub first_pass : List (M × M) → (M → I → Type 0) → M → I → Type 0
  first_pass [] held = held
  first_pass ((m, n) ∷ pairs) held = first_pass pairs (reduce m n held)

  -- the second pass takes them in reverse, and reduces the first member of each
  abbrev pub second_pass : List (M × M) → (M → I → Type 0) → M → I → Type 0
  second_pass [] held = held
  second_pass ((m, n) ∷ pairs) held = reduce n m (second_pass pairs held)

  abbrev pub two_passes : List (M × M) → (M → I → Type 0) → M → I → Type 0
  two_passes pairs held = second_pass pairs (first_pass pairs held)

-- the first of some members that is near
abbrev pub partner : {M : Type 0} → (M → Bool) → List M → Option M
partner near [] = None
partner near (n ∷ rest) = if near n then Some n else partner near rest

abbrev pub with_partner : {M : Type 0} → M → Option M → List (M × M) → List (M × M)
with_partner m None pairs = pairs
with_partner m (Some n) pairs = (m, n) ∷ pairs

-- the pairs of an order of removal: each member, and the one that is near of those that are removed after it. A member
-- that has none makes no pair
abbrev pub pairs_of : {M : Type 0} → (M → M → Bool) → List M → List (M × M)
pairs_of near [] = []
pairs_of near (m ∷ rest) = with_partner m (partner (near m) rest) (pairs_of near rest)
