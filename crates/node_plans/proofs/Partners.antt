-- The first near member of the rest of a list, and the pairs of the rest of an order of removal.
use Rattle.std.proofs.Common.{◌≡◌, ◌+◌, ◌≤◌, ◌++◌, ℕ, suc, Bool, true, false, List, [], ◌∷◌, length, drop, get_or, Option, Some, None, sym, ◌∙◌, ap, add-one, append_assoc}
use Rattle.std.specs.Prelude.{slice_get}
use Rattle.std.proofs.Math.Seq.{drop-cons}
use Rattle.std.proofs.lemmas.Bool.{cond-true, cond-false}
use Rattle.std.proofs.lemmas.List.{drop_all}
use Rattle.std.proofs.lemmas.Option.{slice_get_within, get_or_from_slice_get}
use Rattle.pruning_laws.specs.Passes.{partner, with_partner, pairs_of}

-- the rest of a list from one of its items on
pub rest_at : {X : Type 0} (xs : List X) (i : ℕ) (x : X) → slice_get xs i ≡ Some x → drop i xs ≡ x ∷ drop (i + 1) xs
rest_at xs i x is =
    let step : drop i xs ≡ get_or xs i x ∷ drop (suc i) xs = drop-cons xs i x (slice_get_within xs i x is) in
    let here = get_or_from_slice_get xs i x x is in
    step ∙ ap (λ y. y ∷ drop (suc i) xs) here ∙ ap (λ k. x ∷ drop k xs) (sym (add-one i))

module _ {M : Type 0} (near : M → Bool) (steps : List M) where
  -- one that is not near is passed over
  pub partner_later : (j : ℕ) (n : M) → slice_get steps j ≡ Some n → near n ≡ false → partner near (drop j steps) ≡ partner near (drop (j + 1) steps)
  partner_later j n is other = ap (partner near) (rest_at steps j n is) ∙ cond-false (near n) (Some n) (partner near (drop (j + 1) steps)) other

  -- one that is near is the partner
  pub partner_here : (j : ℕ) (n : M) → slice_get steps j ≡ Some n → near n ≡ true → partner near (drop j steps) ≡ Some n
  partner_here j n is this = ap (partner near) (rest_at steps j n is) ∙ cond-true (near n) (Some n) (partner near (drop (j + 1) steps)) this

  -- after the last there is none
  pub partner_none : (j : ℕ) → length steps ≤ j → partner near (drop j steps) ≡ None
  partner_none j past = ap (partner near) (drop_all j steps past)

-- the pairs of the rest
pairs_at : {M : Type 0} (near : M → M → Bool) (steps : List M) (i : ℕ) (m : M) (other : Option M) → slice_get steps i ≡ Some m → other ≡ partner (near m) (drop (i + 1) steps) →
    pairs_of near (drop i steps) ≡ with_partner m other (pairs_of near (drop (i + 1) steps))
pairs_at near steps i m other is found = ap (pairs_of near) (rest_at steps i m is) ∙ ap (λ o. with_partner m o (pairs_of near (drop (i + 1) steps))) (sym found)

-- the next step makes a pair
pub pairs_some : {M : Type 0} (near : M → M → Bool) (steps : List M) (i : ℕ) (m l : M) (pairs more whole : List (M × M)) → slice_get steps i ≡ Some m → Some l ≡ partner (near m) (drop (i + 1) steps) →
    more ≡ pairs ++ (m, l) ∷ [] → pairs ++ pairs_of near (drop i steps) ≡ whole → more ++ pairs_of near (drop (i + 1) steps) ≡ whole
pairs_some near steps i m l pairs more whole is found pushed before =
    let rest = pairs_of near (drop (i + 1) steps) in
    ap (λ list. list ++ rest) pushed ∙ append_assoc pairs ((m, l) ∷ []) rest ∙ ap (λ list. pairs ++ list) (sym (pairs_at near steps i m (Some l) is found)) ∙ before

-- or it makes none
pub pairs_none : {M : Type 0} (near : M → M → Bool) (steps : List M) (i : ℕ) (m : M) (pairs whole : List (M × M)) → slice_get steps i ≡ Some m → None ≡ partner (near m) (drop (i + 1) steps) →
    pairs ++ pairs_of near (drop i steps) ≡ whole → pairs ++ pairs_of near (drop (i + 1) steps) ≡ whole
pairs_none near steps i m pairs whole is found before = ap (λ list. pairs ++ list) (sym (pairs_at near steps i m None is found)) ∙ before
