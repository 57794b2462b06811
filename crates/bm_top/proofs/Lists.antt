-- Lists, of any items.
use Rattle.std.proofs.Common.{◌≡◌, List, [], ◌∷◌, ◌++◌, length, Option, Some, None, drop, refl, arith, sym, ◌∙◌, ap}
use Rattle.std.specs.Option.{option_to_list}

-- a list of no length is empty
pub nothing_left : {X : Type 0} (xs : List X) → length xs ≡ 0 → xs ≡ []
nothing_left [] h = refl
nothing_left (x ∷ xs) h = absurd (omega arith)

-- what is left of a list after its first item, if it has one
pub drop-first : {X : Type 0} (first : Option X) (all rest : List X) → all ≡ option_to_list first ++ rest → (first ≡ None → length all ≡ 0) → rest ≡ drop 1 all
drop-first (Some x) all rest is none = ap (drop 1) (sym is)
drop-first None all rest is none =
    let empty = nothing_left all (none refl) in
    sym is ∙ empty ∙ ap (drop 1) (sym empty)
