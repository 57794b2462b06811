-- The least number of a triple pattern with three variables, of a list and of a pattern.
use Rattle.std.proofs.Common.{◌≡◌, ◌↔◌, ℕ, ◌≤◌, ◌++◌, min, inl, inr, true, false, ◌&&◌, if◌then◌else◌, List, [], ◌∷◌, fold, Option, Some, None, All, Any, Contains, IsNone, refl, sym, ap, subst, arith, append-nil, append_assoc}
use Rattle.std.proofs.lemmas.Bool.{and_parts, and_from, cases_lt}
use Rattle.std.proofs.lemmas.List.Elements.{All-nil, All-cons, All-append, All-weaker, All-contains, Contains-append_left, Contains-append_right}
use Rattle.bm_term.proofs.Elements.{Contains-head}
use Rattle.alg_model.specs.declared.pattern.Place.{Place}
use Rattle.alg_model.specs.declared.pattern.Place.TheVariants as places
use Rattle.alg_model.specs.declared.pattern.TriplePat.{TriplePat}
use Rattle.alg_model.specs.Pattern.{Algebra, Bgp, Join, LeftJoin, triple_patterns}
use Rattle.well_designed.specs.Places.{is_variable, has_three_variables, lesser, own_number, pattern_number}
use Rattle.well_designed.specs.Refusals.{IsVariable, HasThreeVariables, IsThreePlaces, HasNoThreePlaces}

-- the test of a place
variable_from_test : (place : Place) → is_variable place ≡ true → IsVariable place
variable_from_test (places.Var var) h = tt
variable_from_test (places.Term text) h = absurd (cc)

test_from_variable : (place : Place) → IsVariable place → is_variable place ≡ true
test_from_variable (places.Var var) h = refl
test_from_variable (places.Term text) h = absurd h

-- and of a triple pattern
three_from_test : (triple : TriplePat) → has_three_variables triple ≡ true → HasThreeVariables triple
three_from_test triple h =
    let first = and_parts (is_variable triple.subject && is_variable triple.predicate) (is_variable triple.object) h in
    let second = and_parts (is_variable triple.subject) (is_variable triple.predicate) first.0 in
    record {
      subject = variable_from_test triple.subject second.0;
      predicate = variable_from_test triple.predicate second.1;
      object = variable_from_test triple.object first.1;
    }

test_from_three : (triple : TriplePat) → HasThreeVariables triple → has_three_variables triple ≡ true
test_from_three triple h =
    and_from (is_variable triple.subject && is_variable triple.predicate) (is_variable triple.object)
    (and_from (is_variable triple.subject) (is_variable triple.predicate) (test_from_variable triple.subject h.subject) (test_from_variable triple.predicate h.predicate))
    (test_from_variable triple.object h.object)

-- some item of a list is some item of a longer one
pub Any-from : {X : Type 0} (P : X → Type 0) (xs : List X) (x : X) → Contains xs x → P x → Any P xs
Any-from P xs x at holds = (at.0, x, at.1, at.2, holds)

pub Contains-any : {X : Type 0} (P : X → Type 0) (xs : List X) (some : Any P xs) → Contains xs some.1
Contains-any P xs some = (some.0, some.2, some.3)

-- the number is that of a triple pattern with three variables
abbrev HasNumber : ℕ → TriplePat → Type 0
HasNumber number triple = HasThreeVariables triple × (triple.number ≡ number)

-- no such triple pattern has a lesser number
abbrev IsNotLess : ℕ → TriplePat → Type 0
IsNotLess number triple = HasThreeVariables triple → number ≤ triple.number

-- the number is the least, or there is none
abbrev IsLeast : List TriplePat → Option ℕ → Type 0
IsLeast list None = All (λ triple. ¬ HasThreeVariables triple) list
IsLeast list (Some number) = Any (HasNumber number) list × All (IsNotLess number) list

-- what has no three variables is not less than any number
none_less : (number : ℕ) (list : List TriplePat) → All (λ triple. ¬ HasThreeVariables triple) list → All (IsNotLess number) list
none_less number list all = All-weaker (λ triple. ¬ HasThreeVariables triple) (IsNotLess number) (λ triple no three. absurd (no three)) list all

-- no triple pattern has a number less than a lesser one
all_less : (number lesser : ℕ) (list : List TriplePat) → lesser ≤ number → All (IsNotLess number) list → All (IsNotLess lesser) list
all_less number lesser list low all = All-weaker (IsNotLess number) (IsNotLess lesser) (λ triple h three. let above = h three in omega arith) list all

-- some triple pattern of either list
any_left : (number : ℕ) (xs ys : List TriplePat) → Any (HasNumber number) xs → Any (HasNumber number) (xs ++ ys)
any_left number xs ys some = Any-from (HasNumber number) (xs ++ ys) some.1 (Contains-append_left xs ys some.1 (Contains-any (HasNumber number) xs some)) some.4

any_right : (number : ℕ) (xs ys : List TriplePat) → Any (HasNumber number) ys → Any (HasNumber number) (xs ++ ys)
any_right number xs ys some = Any-from (HasNumber number) (xs ++ ys) some.1 (Contains-append_right xs ys some.1 (Contains-any (HasNumber number) ys some)) some.4

-- the least of two lists
least-append : (xs ys : List TriplePat) (u v : Option ℕ) → IsLeast xs u → IsLeast ys v → IsLeast (xs ++ ys) (lesser u v)
least-append xs ys None None hu hv = All-append (λ triple. ¬ HasThreeVariables triple) xs ys hu hv
least-append xs ys None (Some n) hu hv = (any_right n xs ys hv.0, All-append (IsNotLess n) xs ys (none_less n xs hu) hv.1)
least-append xs ys (Some m) None hu hv = (any_left m xs ys hu.0, All-append (IsNotLess m) xs ys hu.1 (none_less m ys hv))
least-append xs ys (Some m) (Some n) hu hv = elim (cases_lt m n) as (λ _. IsLeast (xs ++ ys) (Some (min m n))) [
  | inl less ↦
      let is : m ≡ min m n = omega arith in
      subst (λ k. IsLeast (xs ++ ys) (Some k)) is (any_left m xs ys hu.0, All-append (IsNotLess m) xs ys hu.1 (all_less n m ys (omega arith) hv.1))
  | inr not_less ↦
      let is : n ≡ min m n = omega arith in
      subst (λ k. IsLeast (xs ++ ys) (Some k)) is (any_right n xs ys hv.0, All-append (IsNotLess n) xs ys (all_less m n xs not_less hu.1) hv.1)
]

-- of one triple pattern
least-own : (triple : TriplePat) → IsLeast (triple ∷ []) (own_number triple)
least-own triple =
    elim (has_three_variables triple) as (λ b. has_three_variables triple ≡ b → IsLeast (triple ∷ []) (if b then Some triple.number else None)) [
      | true ↦ λ e. (
        Any-from (HasNumber triple.number) (triple ∷ []) triple (Contains-head triple []) (three_from_test triple e, refl),
        All-cons (IsNotLess triple.number) triple [] (λ three. omega arith) (All-nil (IsNotLess triple.number)),
      )
      | false ↦ λ e. All-cons (λ triple. ¬ HasThreeVariables triple) triple [] (λ three. let h = test_from_three triple three in cc) (All-nil (λ triple. ¬ HasThreeVariables triple))
    ] refl

-- of a list, and those before it
least-fold : (list done : List TriplePat) (least : Option ℕ) → IsLeast done least → IsLeast (done ++ list) (fold (λ least triple. lesser least (own_number triple)) least list)
least-fold [] done least h = subst (λ all. IsLeast all least) (sym (append-nil done)) h
least-fold (triple ∷ list) done least h =
    subst (λ all. IsLeast all (fold (λ least triple. lesser least (own_number triple)) (lesser least (own_number triple)) list)) (append_assoc done (triple ∷ []) list)
    (least-fold list (done ++ triple ∷ []) (lesser least (own_number triple)) (least-append done (triple ∷ []) least (own_number triple) h (least-own triple)))

-- and of a pattern
least-pattern : (pattern : Algebra) → IsLeast (triple_patterns pattern) (pattern_number pattern)
least-pattern (Bgp list) = least-fold list [] None (All-nil (λ triple. ¬ HasThreeVariables triple))
least-pattern (Join left right) = least-append (triple_patterns left) (triple_patterns right) (pattern_number left) (pattern_number right) (least-pattern left) (least-pattern right)
least-pattern (LeftJoin left right) = least-append (triple_patterns left) (triple_patterns right) (pattern_number left) (pattern_number right) (least-pattern left) (least-pattern right)

-- there is none exactly where no triple pattern has three variables
none-exactly : (pattern : Algebra) (least : Option ℕ) → IsLeast (triple_patterns pattern) least → IsNone least ↔ HasNoThreePlaces pattern
none-exactly pattern None h = (λ _. h, λ _. refl)
none-exactly pattern (Some number) h = (
  λ wrong. absurd (cc),
  λ no. absurd (All-contains (λ triple. ¬ HasThreeVariables triple) (triple_patterns pattern) h.0.1 no (Contains-any (HasNumber number) (triple_patterns pattern) h.0) h.0.4.0),
)

-- and it is a number exactly where this is the least
number-exactly : (pattern : Algebra) (least : Option ℕ) → IsLeast (triple_patterns pattern) least → (number : ℕ) → (least ≡ Some number) ↔ IsThreePlaces pattern number
number-exactly pattern None h number = (
  λ wrong. absurd (cc),
  λ is. absurd (All-contains (λ triple. ¬ HasThreeVariables triple) (triple_patterns pattern) is.stands.1 h (Contains-any (HasNumber number) (triple_patterns pattern) is.stands) is.stands.4.0),
)
number-exactly pattern (Some found) h number = (
  λ is. let same : found ≡ number = cc in subst (IsThreePlaces pattern) same (record { stands = h.0; least = h.1 }),
  λ is.
      let mine = h.0.4 in
      let other = is.stands.4 in
      let low = All-contains (IsNotLess found) (triple_patterns pattern) is.stands.1 h.1 (Contains-any (HasNumber number) (triple_patterns pattern) is.stands) other.0 in
      let high = All-contains (IsNotLess number) (triple_patterns pattern) h.0.1 is.least (Contains-any (HasNumber found) (triple_patterns pattern) h.0) mine.0 in
      let first = mine.1 in
      let second = other.1 in
      let same : found ≡ number = omega arith in
      ap Some same,
)

pub three_places-none : (pattern : Algebra) (answer : Option ℕ) → answer ≡ pattern_number pattern → IsNone answer ↔ HasNoThreePlaces pattern
three_places-none pattern answer is = none-exactly pattern answer (subst (IsLeast (triple_patterns pattern)) (sym is) (least-pattern pattern))

pub three_places-least : (pattern : Algebra) (answer : Option ℕ) → answer ≡ pattern_number pattern → (number : ℕ) → (answer ≡ Some number) ↔ IsThreePlaces pattern number
three_places-least pattern answer is = number-exactly pattern answer (subst (IsLeast (triple_patterns pattern)) (sym is) (least-pattern pattern))

-- there is one least at most
pub one_three : (pattern : Algebra) (number other : ℕ) → IsThreePlaces pattern number → IsThreePlaces pattern other → number ≡ other
one_three pattern number other is so =
    let mine = is.stands.4 in
    let its = so.stands.4 in
    let low = All-contains (IsNotLess number) (triple_patterns pattern) so.stands.1 is.least (Contains-any (HasNumber other) (triple_patterns pattern) so.stands) its.0 in
    let high = All-contains (IsNotLess other) (triple_patterns pattern) is.stands.1 so.least (Contains-any (HasNumber number) (triple_patterns pattern) is.stands) mine.0 in
    let first = mine.1 in
    let second = its.1 in
    omega arith
