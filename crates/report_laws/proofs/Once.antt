-- Lists in which nothing stands twice, once their items are renamed.
use Rattle.std.proofs.Common.{◌≡◌, ◌≢◌, List, [], ◌∷◌, map, flat_map, AllPairs, Contains, Some, refl, sym, ◌∙◌, ap, subst}
use Rattle.bm_term.proofs.Elements.{Contains-single}
use Rattle.alg_model.proofs.Lists.{AllPairs-option, once-flat_map}

map_single : {X Y : Type 0} (f : X → Y) (xs : List X) → flat_map (λ x. f x ∷ []) xs ≡ map f xs
map_single f [] = refl
map_single f (x ∷ xs) = ap (λ list. f x ∷ list) (map_single f xs)

-- items that are told apart by what they become, and of which none stands twice
pub map_once : {X Y : Type 0} (f : X → Y) (xs : List X) → AllPairs (λ x z. x ≢ z) xs → ((x z : X) → Contains xs x → Contains xs z → f x ≡ f z → x ≡ z) → AllPairs (λ y z. y ≢ z) (map f xs)
map_once {X} {Y} f xs once tell =
    subst (AllPairs (λ y z. y ≢ z)) (map_single f xs)
    (once-flat_map (λ x. f x ∷ []) xs once (λ x at. AllPairs-option (λ (y z : Y). y ≢ z) (Some (f x)))
    (λ x z y at at' own own'. tell x z at at' (Contains-single (f x) y own ∙ sym (Contains-single (f z) y own'))))
