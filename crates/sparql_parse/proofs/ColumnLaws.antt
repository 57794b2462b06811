-- Whether a number is among those of some variables.
use Rattle.std.proofs.Common.{◌≡◌, ◌≢◌, ℕ, ◌+◌, Bool, true, false, ◌||◌, ◌==◌, List, [], ◌∷◌, map, take, get_or, Some, refl, sym, ◌∙◌, ap, arith}
use Rattle.std.specs.List.{list_any, slice_get}
use Rattle.std.proofs.lemmas.Option.{get_or_from_slice_get, slice_get_within}
use Rattle.std.proofs.lemmas.List.Folds.{list_any_at, list_any_more}
use Rattle.std.proofs.lemmas.Bool.Decides.{nat_tests}
use Rattle.alg_model.specs.declared.var.Var.{Var}

abbrev is_var : ℕ → Var → Bool
is_var n v = v.0 == n

abbrev numbers : List Var → List ℕ
numbers vars = map (λ v. v.0) vars

list_any-numbers : (n : ℕ) (vars : List Var) → list_any (λ m. m == n) (numbers vars) ≡ list_any (is_var n) vars
list_any-numbers n [] = refl
list_any-numbers n (v ∷ vars) = ap (λ b. (v.0 == n) || b) (list_any-numbers n vars)

equal_test : (a b : ℕ) → a ≡ b → (a == b) ≡ true
equal_test a b e = grind (arith, nat_tests)

other_test : (a b : ℕ) → a ≢ b → (a == b) ≡ false
other_test a b e = grind (arith, nat_tests)

pub number_is_there : (n : ℕ) (vars : List Var) (i : ℕ) (v : Var) → slice_get vars i ≡ Some v → v.0 ≡ n → list_any (λ m. m == n) (numbers vars) ≡ true
number_is_there n vars i v at same =
    let here : is_var n (get_or vars i v) ≡ true = ap (is_var n) (get_or_from_slice_get vars i v v at) ∙ equal_test v.0 n same in
    list_any-numbers n vars ∙ list_any_at (is_var n) vars i v (slice_get_within vars i v at) here

pub number_is_not_there : (n : ℕ) (vars : List Var) (i : ℕ) (v : Var) → slice_get vars i ≡ Some v → v.0 ≢ n → list_any (λ m. m == n) (numbers (take i vars)) ≡ false →
    list_any (λ m. m == n) (numbers (take (i + 1) vars)) ≡ false
number_is_not_there n vars i v at other before =
    let here : is_var n (get_or vars i v) ≡ false = ap (is_var n) (get_or_from_slice_get vars i v v at) ∙ other_test v.0 n other in
    let front : list_any (is_var n) (take i vars) ≡ false = sym (list_any-numbers n (take i vars)) ∙ before in
    list_any-numbers n (take (i + 1) vars) ∙ list_any_more (is_var n) vars i v (slice_get_within vars i v at)
    ∙ ap (λ b. b || is_var n (get_or vars i v)) front ∙ here
