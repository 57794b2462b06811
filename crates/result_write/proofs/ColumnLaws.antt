-- The order of columns is total, and only equal columns tie; columns are numbered one by one.
use Rattle.std.proofs.Common.{◌≡◌, ℕ, ◌+◌, ◌<◌, List, [], ◌∷◌, ◌++◌, map, length, take, drop, suc, add-one, drop-cons, get_or, IsPermutation, IsSorted, refl, sym, ◌∙◌, ap, subst, arith}
use Rattle.std.proofs.lemmas.List.{get_or-map, length-map, take_more, map-append, length-take}
use Rattle.std.proofs.lemmas.List.Sorted.{IsPermutation-map}
use Rattle.std.proofs.lemmas.Map.Lookups.{CmpEqualImpliesEq, exact_bytes}
use Rattle.std.specs.Cmp.{IsTotalOrder, then_total, on_total, nat_cmp_total}
use Rattle.std.specs.Cmp.Lexicographic.{lists_total}
use Rattle.std.specs.List.{enumerate_from}
use Rattle.std.specs.Ordering.{ordering_then}
use Rattle.std.specs.declared.cmp.Ordering.{Ordering}
use Rattle.std.specs.declared.cmp.Ordering.TheVariants.{Less, Equal, Greater}
use Rattle.alg_model.proofs.InOrder.{in_order-is}
use Rattle.result_write.specs.JsonResult.{column_cmp, columns_of, columns_by_name}

pub column_cmp-total : IsTotalOrder column_cmp
column_cmp-total = then_total (on_total (λ (c : List ℕ × ℕ). c.0) (lists_total nat_cmp_total)) (on_total (λ (c : List ℕ × ℕ). c.1) nat_cmp_total)

-- two comparisons in turn tie where both do
both_tie : (r s : Ordering) → ordering_then r s ≡ Equal → (r ≡ Equal) × (s ≡ Equal)
both_tie Less s h = absurd (cc)
both_tie Equal s h = (refl, h)
both_tie Greater s h = absurd (cc)

pub column_cmp-exact : CmpEqualImpliesEq column_cmp
column_cmp-exact c d tie =
    let ties = both_tie _ _ tie in
    let names : c.0 ≡ d.0 = exact_bytes c.0 d.0 ties.0 in
    let places : c.1 ≡ d.1 = grind (arith, ties.1) in
    λ i. (names i, places i)

-- a list that is sorted by what its items show, as the list of that
pub IsSorted-map : {X Y : Type 0} (cmp : Y → Y → Ordering) (f : X → Y) (xs : List X) → IsSorted (λ a b. cmp (f a) (f b)) xs → IsSorted cmp (map f xs)
IsSorted-map cmp f [] sorted k d low high = absurd (omega (arith))
IsSorted-map cmp f (x ∷ xs) sorted k d low high =
    let more : k + 1 < length (x ∷ xs) = omega (arith, length-map (x ∷ xs) f) in
    let here : k < length (x ∷ xs) = omega arith in
    rw (get_or-map f (x ∷ xs) (k + 1) x d more, get_or-map f (x ∷ xs) k x d here) (sorted k x low more)

-- columns that were sorted are those in order
pub sorted_columns : {X : Type 0} (f : X → List ℕ × ℕ) (names : List (List ℕ)) (xs ys : List X) → map f xs ≡ columns_of names → IsPermutation xs ys → IsSorted (λ a b. column_cmp (f a) (f b)) ys → map f ys ≡ columns_by_name names
unfolding columns_by_name
sorted_columns f names xs ys are moved sorted =
    in_order-is column_cmp column_cmp-total column_cmp-exact (columns_of names) (map f ys) (subst (λ cs. IsPermutation cs (map f ys)) are (IsPermutation-map f xs ys moved)) (IsSorted-map column_cmp f ys sorted)

-- one column more
enumerate_from-append : {X : Type 0} (n : ℕ) (xs : List X) (x : X) → enumerate_from n (xs ++ x ∷ []) ≡ enumerate_from n xs ++ (n + length xs, x) ∷ []
enumerate_from-append n [] x = ap (λ m. (m, x) ∷ []) (omega arith)
enumerate_from-append n (y ∷ xs) x = ap (λ rest. (n, y) ∷ rest) (enumerate_from-append (n + 1) xs x ∙ ap (λ m. enumerate_from (n + 1) xs ++ (m, x) ∷ []) (omega arith))

pub columns_of-more : (names : List (List ℕ)) (name : List ℕ) → columns_of (names ++ name ∷ []) ≡ columns_of names ++ (name, length names) ∷ []
columns_of-more names name =
    ap (map (λ (c : ℕ × List ℕ). (c.1, c.0))) (enumerate_from-append 0 names name)
    ∙ map-append (λ (c : ℕ × List ℕ). (c.1, c.0)) (enumerate_from 0 names) ((0 + length names, name) ∷ [])
    ∙ ap (λ n. columns_of names ++ (name, n) ∷ []) (omega arith)

-- one column more is made
pub columns_pushed : {X Y : Type 0} (shown : X → List ℕ × ℕ) (name_of : Y → List ℕ) (columns after : List X) (names : List Y) (i : ℕ) (column : X) (name : Y) → i < length names → name ≡ get_or names i name → after ≡ columns ++ column ∷ [] → shown column ≡ (name_of name, i)
    → map shown columns ≡ columns_of (map name_of (take i names)) → map shown after ≡ columns_of (map name_of (take (i + 1) names))
columns_pushed shown name_of columns after names i column name within is is_after one so_far =
    let front = map name_of (take i names) in
    let far : length front ≡ i = simp (length-map, length-take) (omega arith) in
    let more : map name_of (take (i + 1) names) ≡ front ++ name_of name ∷ [] = ap (map name_of) (take_more names i name within) ∙ map-append name_of (take i names) (get_or names i name ∷ []) ∙ ap (λ n. front ++ name_of n ∷ []) (sym is) in
    ap (map shown) is_after ∙ map-append shown columns (column ∷ [])
    ∙ ap (λ done. done ++ shown column ∷ []) so_far
    ∙ ap (λ c. columns_of front ++ c ∷ []) (one ∙ ap (λ n. (name_of name, n)) (sym far))
    ∙ sym (columns_of-more front (name_of name)) ∙ ap columns_of (sym more)

-- what is left of a list begins with the next item
pub drop-item : {X : Type 0} (xs : List X) (i : ℕ) (x : X) → i < length xs → x ≡ get_or xs i x → drop i xs ≡ x ∷ drop (i + 1) xs
drop-item xs i x within is = rw add-one (drop-cons xs i x within ∙ ap (λ y. y ∷ drop (suc i) xs) (sym is))
