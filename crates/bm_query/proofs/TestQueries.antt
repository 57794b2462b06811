-- For the tests: queries of three variables and two triple patterns keep the limits.
use Rattle.std.proofs.Common.{◌≡◌, ◌≢◌, ℕ, zero, suc, ◌<◌, ◌++◌, List, [], ◌∷◌, length, map, get_or, All, AllPairs, IsUtf8, IsAscii, codes, sym, ap, ◌∙◌, subst, arith, lit≤, lit<, length-append}
use Rattle.std.proofs.lemmas.List.{length-map, map-append}
use Rattle.std.proofs.lemmas.List.Elements.{All-nil, All-cons, All-append}
use Rattle.std.proofs.lemmas.List.Kept.{AllPairs-cons}
use Rattle.std.proofs.lemmas.Str.{IsUtf8-from_ascii}
use Rattle.std.specs.List.{range_with_len}
use Rattle.alg_model.specs.declared.pattern.TriplePat.{TriplePat}
use Rattle.alg_model.specs.declared.query.Query.{Query}
use Rattle.alg_model.specs.declared.var.Var.{Var}
use Rattle.alg_model.specs.Limits.{KeepsLimits, PatternKeepsLimits}
use Rattle.alg_model.specs.Pattern.{Algebra, Bgp, Join, LeftJoin, HasVarsBelow, algebra_of, vars_of}

abbrev pub var : ℕ → Var
var n = record { 0 = n }

-- ---- three names and three columns

three_differ : {X : Type 0} (x y z : X) → x ≢ y → x ≢ z → y ≢ z → AllPairs (λ a b. a ≢ b) (x ∷ y ∷ z ∷ [])
three_differ {X} x y z xy xz yz =
    let R : X → X → Type 0 = λ a b. a ≢ b in
    let last : AllPairs R (z ∷ []) = AllPairs-cons R z [] (All-nil (R z)) (λ i j d lt within. absurd (omega arith)) in
    AllPairs-cons R x (y ∷ z ∷ []) (All-cons (R x) y (z ∷ []) xy (All-cons (R x) z [] xz (All-nil (R x)))) (AllPairs-cons R y (z ∷ []) (All-cons (R y) z [] yz (All-nil (R y))) last)

ascii_letter : (letter : ℕ) → letter < 128 → IsAscii (letter ∷ [])
ascii_letter letter low zero = low
ascii_letter letter low (suc i) = lit< tt

one_letter : (letter : ℕ) → letter < 128 → IsUtf8 (letter ∷ [])
one_letter letter low = IsUtf8-from_ascii (letter ∷ []) (ascii_letter letter low)

letters_differ : (a b : ℕ) → a ≢ b → (a ∷ []) ≢ (b ∷ [])
letters_differ a b apart same = apart (ap (λ name. get_or name 0 0) same)

vars_differ : (a b : ℕ) → a ≢ b → var a ≢ var b
vars_differ a b apart same = apart (ap (λ v. v.0) same)

abbrev pub names : List (List ℕ)
names = codes "x" ∷ codes "y" ∷ codes "z" ∷ []

abbrev pub columns : List Var
columns = var 0 ∷ var 1 ∷ var 2 ∷ []

names_are_text : All IsUtf8 names
names_are_text =
    All-cons IsUtf8 (codes "x") (codes "y" ∷ codes "z" ∷ []) (one_letter 120 (lit< tt))
    (All-cons IsUtf8 (codes "y") (codes "z" ∷ []) (one_letter 121 (lit< tt)) (All-cons IsUtf8 (codes "z") [] (one_letter 122 (lit< tt)) (All-nil IsUtf8)))

names_differ : AllPairs (λ a b. a ≢ b) names
names_differ = three_differ (codes "x") (codes "y") (codes "z") (letters_differ 120 121 (λ same. omega arith)) (letters_differ 120 122 (λ same. omega arith)) (letters_differ 121 122 (λ same. omega arith))

columns_below : All (λ column. column.0 < 3) columns
columns_below =
    let Below : Var → Type 0 = λ column. column.0 < 3 in
    All-cons Below (var 0) (var 1 ∷ var 2 ∷ []) (lit< tt) (All-cons Below (var 1) (var 2 ∷ []) (lit< tt) (All-cons Below (var 2) [] (lit< tt) (All-nil Below)))

columns_differ : AllPairs (λ a b. a ≢ b) columns
columns_differ = three_differ (var 0) (var 1) (var 2) (vars_differ 0 1 (λ same. omega arith)) (vars_differ 0 2 (λ same. omega arith)) (vars_differ 1 2 (λ same. omega arith))

pub three_names : (query : Query) → query.names ≡ names → query.columns ≡ columns → PatternKeepsLimits 3 (algebra_of query.pattern) → KeepsLimits query
three_names query named answered keeps = record {
  few_names = rw named (lit≤ tt);
  names_are_text = rw named names_are_text;
  names_differ = rw named names_differ;
  pattern = rw named keeps;
  columns_below = rw (named, answered) columns_below;
  columns_differ = rw answered columns_differ;
}

-- ---- a triple pattern in an OPTIONAL, and one after it

pub after_keeps : (pattern : Algebra) (left right : List TriplePat) → pattern ≡ Join (LeftJoin (Bgp []) (Bgp left)) (Bgp right) → HasVarsBelow 3 (Bgp left) → HasVarsBelow 3 (Bgp right)
    → map (λ triple. triple.number) left ≡ 1 ∷ [] → map (λ triple. triple.number) right ≡ 2 ∷ [] → PatternKeepsLimits 3 pattern
after_keeps pattern left right is below_left below_right first second =
    let number : TriplePat → ℕ = λ triple. triple.number in
    let one : length left ≡ 1 = sym (length-map left number) ∙ ap length first in
    let other : length right ≡ 1 = sym (length-map right number) ∙ ap length second in
    let two : length (left ++ right) ≡ 2 = omega (arith, length-append left right) in
    subst (PatternKeepsLimits 3) (sym is) (record {
      vars_below = All-append (λ v. v < 3) (vars_of (Bgp left)) (vars_of (Bgp right)) below_left below_right;
      few_optional = lit≤ tt;
      few_triples = omega arith;
      numbered = map-append number left right ∙ (λ i. first i ++ second i) ∙ sym (ap (range_with_len 1) two);
    })
