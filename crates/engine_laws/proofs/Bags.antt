-- Lists in which nothing stands twice: two with the same items are one bag.
use Rattle.std.proofs.Common.{◌≡◌, ◌≢◌, ◌↔◌, inl, inr, List, [], ◌∷◌, map, AllPairs, Contains, refl, sym, subst}
use Rattle.std.specs.Prelude.{IsPermutation}
use Rattle.std.proofs.lemmas.List.Elements.{All-contains}
use Rattle.std.proofs.lemmas.List.Sorted.{Contains-permutation, IsPermutation-refl, IsPermutation-sym, IsPermutation-trans, IsPermutation-cons, IsPermutation-middle}
use Rattle.bm_term.proofs.Elements.{Contains-head, Contains-tail, Contains-nil, Contains-cons_cases}
use Rattle.alg_model.proofs.Lists.{AllPairs-head, AllPairs-tail}
use Rattle.pattern_tree.proofs.Pruning.{map-Contains}

-- each item stands before no other that is the same
abbrev pub IsOnce : {X : Type 0} → List X → Type 0
IsOnce [] = Unit {0}
IsOnce (x ∷ xs) = (¬ Contains xs x) × IsOnce xs

pub once : {X : Type 0} (xs : List X) → AllPairs (λ x y. x ≢ y) xs → IsOnce xs
once [] pairs = tt
once (x ∷ xs) pairs = (
  λ at. All-contains (λ y. x ≢ y) xs x (AllPairs-head (λ x y. x ≢ y) x xs pairs) at refl,
  once xs (AllPairs-tail (λ x y. x ≢ y) x xs pairs),
)

-- what f gives of items stands once, where no two of them give the same
pub once-map : {X Y : Type 0} (f : X → Y) (xs : List X) → IsOnce xs → ((x z : X) → Contains xs x → Contains xs z → f x ≡ f z → x ≡ z) → IsOnce (map f xs)
once-map f [] is one = tt
once-map f (x ∷ xs) is one = (
  λ at.
      let from = map-Contains f xs (f x) at in
      is.0 (subst (Contains xs) (one from.0 x (Contains-tail x xs from.0 from.1) (Contains-head x xs) from.2) from.1),
  once-map f xs is.1 (λ z w p q. one z w (Contains-tail x xs z p) (Contains-tail x xs w q)),
)

-- a list without one of its items
record Without {X : Type 0} (xs : List X) (x : X) : Type 0 where
  rest : List X
  moved : IsPermutation xs (x ∷ rest)
  once : IsOnce rest
  gone : ¬ Contains rest x

without : {X : Type 0} (xs : List X) (x : X) → Contains xs x → IsOnce xs → Without xs x
without {X} [] x at is = absurd (Contains-nil x at)
without {X} (y ∷ xs) x at is = elim (Contains-cons_cases y xs x at) as (λ _. Without (y ∷ xs) x) [
  | inl same ↦ subst (Without (y ∷ xs)) same (record { rest = xs; moved = IsPermutation-refl (y ∷ xs); once = is.1; gone = is.0 })
  | inr later ↦
      let other = without xs x later is.1 in
      let back = λ (z : X) (c : Contains other.rest z). Contains-permutation (x ∷ other.rest) xs z (IsPermutation-sym xs (x ∷ other.rest) other.moved) (Contains-tail x other.rest z c) in
      record {
        rest = y ∷ other.rest;
        moved = IsPermutation-trans (y ∷ xs) (y ∷ x ∷ other.rest) (x ∷ y ∷ other.rest) (IsPermutation-cons y xs (x ∷ other.rest) other.moved) (IsPermutation-middle (y ∷ []) x other.rest);
        once = (λ c. is.0 (back y c), other.once);
        gone = λ c. elim (Contains-cons_cases y other.rest x c) as (λ _. ⊥) [
          | inl same ↦ is.0 (subst (Contains xs) (sym same) later)
          | inr there ↦ other.gone there
        ];
      }
]

pub one_bag : {X : Type 0} (xs ys : List X) → IsOnce xs → IsOnce ys → ((x : X) → Contains xs x ↔ Contains ys x) → IsPermutation xs ys
one_bag [] [] a b same = IsPermutation-refl []
one_bag [] (y ∷ ys) a b same = absurd (Contains-nil y ((same y).1 (Contains-head y ys)))
one_bag (x ∷ xs) ys a b same =
    let left = without ys x ((same x).0 (Contains-head x xs)) b in
    let back = IsPermutation-sym ys (x ∷ left.rest) left.moved in
    let rest = one_bag xs left.rest a.1 left.once (λ z. (
      λ at. elim (Contains-cons_cases x left.rest z (Contains-permutation ys (x ∷ left.rest) z left.moved ((same z).0 (Contains-tail x xs z at)))) as (λ _. Contains left.rest z) [
        | inl is ↦ absurd (a.0 (subst (Contains xs) (sym is) at))
        | inr there ↦ there
      ],
      λ at. elim (Contains-cons_cases x xs z ((same z).1 (Contains-permutation (x ∷ left.rest) ys z back (Contains-tail x left.rest z at)))) as (λ _. Contains xs z) [
        | inl is ↦ absurd (left.gone (subst (Contains left.rest) (sym is) at))
        | inr there ↦ there
      ],
    )) in
    IsPermutation-trans (x ∷ xs) (x ∷ left.rest) ys (IsPermutation-cons x xs left.rest rest) back
