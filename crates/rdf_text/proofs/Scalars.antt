-- Lists of characters, which are scalar values.
use Rattle.std.proofs.Common.{◌≡◌, ℕ, true, false, ◌&&◌, arith, List, [], ◌∷◌, ◌++◌, refl, ◌∙◌, sym}
use Rattle.std.proofs.lemmas.Bool.{and_parts}
use Rattle.std.proofs.lemmas.Bool.Decides.{nat_tests}
use Rattle.std.specs.Str.{all_scalars}
use lib.Utf8.{scalar}
use Rattle.rdf_text.specs.Classes.{is_scalar}

-- the test of the grammars is that of the library
pub is_scalar-scalar : (c : ℕ) → is_scalar c ≡ scalar c
unfolding is_scalar
is_scalar-scalar c = grind (arith, nat_tests)

-- two texts in a row have characters only where both have
pub all_scalars-append : (xs ys : List ℕ) → all_scalars (xs ++ ys) ≡ (all_scalars xs && all_scalars ys)
all_scalars-append [] ys = refl
all_scalars-append (c ∷ cs) ys =
    elim (scalar c) as (λ b. (b && all_scalars (cs ++ ys)) ≡ ((b && all_scalars cs) && all_scalars ys)) [
      | true ↦ all_scalars-append cs ys
      | false ↦ refl
    ]

-- a front has characters only where the text has
pub scalars_front : (xs ys : List ℕ) → all_scalars (xs ++ ys) ≡ true → all_scalars xs ≡ true
scalars_front xs ys e = (and_parts (all_scalars xs) (all_scalars ys) (sym (all_scalars-append xs ys) ∙ e)).0

-- and so has the rest
pub scalars_back : (xs ys : List ℕ) → all_scalars (xs ++ ys) ≡ true → all_scalars ys ≡ true
scalars_back xs ys e = (and_parts (all_scalars xs) (all_scalars ys) (sym (all_scalars-append xs ys) ∙ e)).1
