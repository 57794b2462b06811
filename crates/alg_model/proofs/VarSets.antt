-- Sets of variables as words: each of the sets of a place, a triple pattern, a list of them and a pattern holds just
-- the variables, and is below 2 ^ 64 where the variables have room in a word.
use Rattle.std.proofs.Common.{◌≡◌, ◌≢◌, ◌↔◌, ◌⊎◌, ℕ, ◌+◌, ◌^◌, ◌<◌, ◌≤◌, ◌++◌, inl, inr, List, [], ◌∷◌, flat_map, fold, max, bit_or, All, Contains, get_or, append_assoc, append-nil, refl, sym, ◌∙◌, subst, arith, lit<}
use Rattle.std.proofs.lemmas.Bool.{cases_eq}
use Rattle.std.proofs.lemmas.List.Elements.{All-nil, All-cons, All-head, All-tail, All-contains, Contains-get_or, Contains-append_left, Contains-append_right, Contains-append_cases}
use Rattle.std.proofs.lemmas.Nat.{or_lt}
use Rattle.std.proofs.lemmas.Nat.Bits.{bit_at-zero, bit_at-lt, bit_at-pow_same, bit_at-pow_other, bit_at_or}
use Rattle.std.proofs.Math.Pow.{pow-lt}
use Rattle.std.specs.Int.{bit_at}
use Rattle.bm_term.proofs.Elements.{Contains-head, Contains-nil, Contains-single}
use Rattle.alg_model.specs.declared.pattern.Place.{Place}
use Rattle.alg_model.specs.declared.pattern.Place.TheVariants as places
use Rattle.alg_model.specs.declared.pattern.TriplePat.{TriplePat}
use Rattle.alg_model.specs.Limits.{max_variables}
use Rattle.alg_model.specs.Pattern.{Algebra, Bgp, Join, LeftJoin, HasVarsBelow, place_vars, triple_vars, vars_of}
use Rattle.alg_model.specs.VarSet.{HoldsJust, place_set, triple_set, list_set, pattern_set, PlaceFits, TripleFits, PatternFits}

-- the empty word holds no variable
pub HoldsJust-nil : HoldsJust 0 []
HoldsJust-nil var = (λ h. absurd (omega (arith, bit_at-zero var)), λ at. absurd (Contains-nil var at))

-- a word with one bit holds that variable
HoldsJust-one : (v : ℕ) → HoldsJust (2 ^ v) (v ∷ [])
HoldsJust-one v var = (
  λ h. elim (cases_eq var v) as (λ _. Contains (v ∷ []) var) [
    | inl is ↦ subst (Contains (v ∷ [])) (sym is) (Contains-head v [])
    | inr other ↦ absurd (omega (arith, bit_at-pow_other v var other))
  ],
  λ at. let is = Contains-single v var at in subst (λ k. bit_at (2 ^ v) k ≡ 1) is (bit_at-pow_same v),
)

-- two words as one hold the variables of both
pub HoldsJust-or : (a b : ℕ) (vs ws : List ℕ) → HoldsJust a vs → HoldsJust b ws → HoldsJust (bit_or a b) (vs ++ ws)
HoldsJust-or a b vs ws first second var = (
  λ h. elim (cases_eq (bit_at a var) 1) as (λ _. Contains (vs ++ ws) var) [
    | inl there ↦ Contains-append_left vs ws var ((first var).0 there)
    | inr not ↦ Contains-append_right vs ws var ((second var).0 (omega (arith, bit_at_or a b var, bit_at-lt a var, bit_at-lt b var)))
  ],
  λ at. elim (Contains-append_cases vs ws var at) as (λ _. bit_at (bit_or a b) var ≡ 1) [
    | inl there ↦ let is = (first var).1 there in omega (arith, bit_at_or a b var, bit_at-lt b var)
    | inr there ↦ let is = (second var).1 there in omega (arith, bit_at_or a b var, bit_at-lt a var)
  ],
)

-- the set of a place
pub HoldsJust-place : (place : Place) → HoldsJust (place_set place) (place_vars place)
HoldsJust-place (places.Var var) = HoldsJust-one var.0
HoldsJust-place (places.Term text) = HoldsJust-nil

-- of a triple pattern
pub HoldsJust-triple : (pattern : TriplePat) → HoldsJust (triple_set pattern) (triple_vars pattern)
HoldsJust-triple pattern =
    let s = place_set pattern.subject in
    let p = place_set pattern.predicate in
    let first = HoldsJust-or s p (place_vars pattern.subject) (place_vars pattern.predicate) (HoldsJust-place pattern.subject) (HoldsJust-place pattern.predicate) in
    HoldsJust-or (bit_or s p) (place_set pattern.object) (place_vars pattern.subject ++ place_vars pattern.predicate) (place_vars pattern.object) first (HoldsJust-place pattern.object)

-- a word that holds just some variables, with those of each item of a list
pub HoldsJust-fold : {X : Type 0} (word : X → ℕ) (vars : X → List ℕ) → ((x : X) → HoldsJust (word x) (vars x)) → (xs : List X) (set : ℕ) (found : List ℕ) → HoldsJust set found →
    HoldsJust (fold (λ set x. bit_or set (word x)) set xs) (found ++ flat_map vars xs)
HoldsJust-fold word vars each [] set found holds = subst (HoldsJust set) (sym (append-nil found)) holds
HoldsJust-fold word vars each (x ∷ xs) set found holds =
    let all = fold (λ set x. bit_or set (word x)) (bit_or set (word x)) xs in
    subst (HoldsJust all) (append_assoc found (vars x) (flat_map vars xs))
    (HoldsJust-fold word vars each xs (bit_or set (word x)) (found ++ vars x) (HoldsJust-or set (word x) found (vars x) holds (each x)))

-- of a list of triple patterns
pub HoldsJust-list : (patterns : List TriplePat) → HoldsJust (list_set patterns) (vars_of (Bgp patterns))
HoldsJust-list patterns = HoldsJust-fold triple_set triple_vars HoldsJust-triple patterns 0 [] HoldsJust-nil

-- of a pattern
pub HoldsJust-pattern : (pattern : Algebra) → HoldsJust (pattern_set pattern) (vars_of pattern)
HoldsJust-pattern (Bgp list) = HoldsJust-list list
HoldsJust-pattern (Join left right) = HoldsJust-or (pattern_set left) (pattern_set right) (vars_of left) (vars_of right) (HoldsJust-pattern left) (HoldsJust-pattern right)
HoldsJust-pattern (LeftJoin left right) = HoldsJust-or (pattern_set left) (pattern_set right) (vars_of left) (vars_of right) (HoldsJust-pattern left) (HoldsJust-pattern right)

-- ---- room in a word

-- variables below the limit have room: in a place
place_fits : (place : Place) → All (λ var. var < max_variables) (place_vars place) → PlaceFits place
place_fits (places.Var var) below = All-head (λ var. var < max_variables) var.0 [] below
place_fits (places.Term text) below = tt

-- what holds of all of two lists holds of all of each
pub All-left : {X : Type 0} (P : X → Type 0) (xs ys : List X) → All P (xs ++ ys) → All P xs
All-left P xs ys all k d low = All-contains P (xs ++ ys) (get_or xs k d) all (Contains-append_left xs ys (get_or xs k d) (Contains-get_or xs k d low))

pub All-right : {X : Type 0} (P : X → Type 0) (xs ys : List X) → All P (xs ++ ys) → All P ys
All-right P xs ys all k d low = All-contains P (xs ++ ys) (get_or ys k d) all (Contains-append_right xs ys (get_or ys k d) (Contains-get_or ys k d low))

-- they have room in a triple pattern
triple_fits : (pattern : TriplePat) → All (λ var. var < max_variables) (triple_vars pattern) → TripleFits pattern
triple_fits pattern below =
    let s = place_vars pattern.subject in
    let p = place_vars pattern.predicate in
    let o = place_vars pattern.object in
    let first = All-left (λ var. var < max_variables) (s ++ p) o below in
    record {
      subject = place_fits pattern.subject (All-left (λ var. var < max_variables) s p first);
      predicate = place_fits pattern.predicate (All-right (λ var. var < max_variables) s p first);
      object = place_fits pattern.object (All-right (λ var. var < max_variables) (s ++ p) o below);
    }

-- in a list of triple patterns
list_fits : (patterns : List TriplePat) → All (λ var. var < max_variables) (flat_map triple_vars patterns) → All TripleFits patterns
list_fits [] below = All-nil TripleFits
list_fits (pattern ∷ patterns) below =
    All-cons TripleFits pattern patterns
    (triple_fits pattern (All-left (λ var. var < max_variables) (triple_vars pattern) (flat_map triple_vars patterns) below))
    (list_fits patterns (All-right (λ var. var < max_variables) (triple_vars pattern) (flat_map triple_vars patterns) below))

-- and in a pattern
pub pattern_fits : (pattern : Algebra) → HasVarsBelow max_variables pattern → PatternFits pattern
pattern_fits (Bgp list) below = list_fits list below
pattern_fits (Join left right) below =
    (pattern_fits left (All-left (λ var. var < max_variables) (vars_of left) (vars_of right) below), pattern_fits right (All-right (λ var. var < max_variables) (vars_of left) (vars_of right) below))
pattern_fits (LeftJoin left right) below =
    (pattern_fits left (All-left (λ var. var < max_variables) (vars_of left) (vars_of right) below), pattern_fits right (All-right (λ var. var < max_variables) (vars_of left) (vars_of right) below))

-- the set of a place is a word
pub place_set-lt : (place : Place) → PlaceFits place → place_set place < 2 ^ 64
place_set-lt (places.Var var) low = pow-lt low
place_set-lt (places.Term text) low = lit< tt

-- of a triple pattern
triple_set-lt : (pattern : TriplePat) → TripleFits pattern → triple_set pattern < 2 ^ 64
triple_set-lt pattern fits =
    or_lt 64 (bit_or (place_set pattern.subject) (place_set pattern.predicate)) (place_set pattern.object)
    (or_lt 64 (place_set pattern.subject) (place_set pattern.predicate) (place_set-lt pattern.subject fits.subject) (place_set-lt pattern.predicate fits.predicate))
    (place_set-lt pattern.object fits.object)

-- of a word and a list of triple patterns
fold-lt : (patterns : List TriplePat) (set : ℕ) → set < 2 ^ 64 → All TripleFits patterns → fold (λ set pattern. bit_or set (triple_set pattern)) set patterns < 2 ^ 64
fold-lt [] set low fits = low
fold-lt (pattern ∷ patterns) set low fits =
    fold-lt patterns (bit_or set (triple_set pattern)) (or_lt 64 set (triple_set pattern) low (triple_set-lt pattern (All-head TripleFits pattern patterns fits))) (All-tail TripleFits pattern patterns fits)

-- and of a pattern
pub pattern_set-lt : (pattern : Algebra) → PatternFits pattern → pattern_set pattern < 2 ^ 64
pattern_set-lt (Bgp list) fits = fold-lt list 0 (lit< tt) fits
pattern_set-lt (Join left right) fits = or_lt 64 (pattern_set left) (pattern_set right) (pattern_set-lt left fits.0) (pattern_set-lt right fits.1)
pattern_set-lt (LeftJoin left right) fits = or_lt 64 (pattern_set left) (pattern_set right) (pattern_set-lt left fits.0) (pattern_set-lt right fits.1)
