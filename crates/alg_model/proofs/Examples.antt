-- Worked examples, by computation: small patterns over a few triples, a solution, and queries within the limits.
use Rattle.std.proofs.Common.{◌≡◌, ◌≢◌, ℕ, zero, suc, ◌<◌, List, [], ◌∷◌, get_or, All, Any, IsUtf8, IsAscii, Option, Some, None, inl, inr, Bool, true, false, codes, refl, sym, ◌∙◌, ap, subst, arith, lit≤, lit<}
use Rattle.std.proofs.lemmas.List.Elements.{All-nil, All-cons, All-from_recursion}
use Rattle.std.proofs.lemmas.Str.{IsUtf8-from_ascii}
use Rattle.bm_term.specs.declared.triple.Triple.{Triple}
use Rattle.alg_model.specs.declared.pattern.Place.{Place}
use Rattle.alg_model.specs.declared.pattern.Place.TheVariants as places
use Rattle.alg_model.specs.declared.pattern.TriplePat.{TriplePat}
use Rattle.alg_model.specs.declared.pattern.Pattern.TheVariants as patterns
use Rattle.alg_model.specs.declared.query.Query.{Query}
use Rattle.alg_model.specs.Row.{join, binding, Extends, BindsMore}
use Rattle.alg_model.specs.Pattern.{Bgp, Join, LeftJoin, algebra_of, IsVar, StandsAtPredicate, StandsAtNode}
use Rattle.alg_model.specs.Eval.{as_terms, eval}
use Rattle.alg_model.specs.Solution.{BindsJust, Makes, IsSolution}
use Rattle.alg_model.specs.Answers.{answers_of}
use Rattle.alg_model.specs.Limits.{KeepsLimits}
use Rattle.bm_term.proofs.Elements.{Contains-head, Contains-single}
use Rattle.alg_model.proofs.Lists.{AllPairs-append, AllPairs-option}

-- three terms that are subjects and objects, and one predicate
abbrev a : List ℕ
a = codes "<a>"

abbrev b : List ℕ
b = codes "<b>"

abbrev c : List ℕ
c = codes "<c>"

abbrev p : List ℕ
p = codes "<p>"

abbrev triple : List ℕ → List ℕ → Triple
triple subject object = record { subject = subject; predicate = p; object = object }

-- three variables
abbrev x : Place
x = places.Var (record { 0 = 0 })

abbrev y : Place
y = places.Var (record { 0 = 1 })

abbrev z : Place
z = places.Var (record { 0 = 2 })

abbrev term : List ℕ → Place
term text = places.Term text

abbrev pattern : Place → Place → ℕ → TriplePat
pattern subject object number = record { subject = subject; predicate = places.Term p; object = object; number = number }

-- ?x p ?y . ?y p ?z over (a p b), (b p c): the one row a b c
two_patterns : eval as_terms 3 (Bgp (pattern x y 1 ∷ pattern y z 2 ∷ [])) (triple a b ∷ triple b c ∷ []) ≡ (Some a ∷ Some b ∷ Some c ∷ []) ∷ []
two_patterns = refl

-- constants alone that are a triple: the one row that binds nothing
constants_found : eval as_terms 1 (Bgp (pattern (term a) (term b) 1 ∷ [])) (triple a b ∷ triple b c ∷ []) ≡ (None ∷ []) ∷ []
constants_found = refl

-- constants alone that are no triple: no row
constants_missing : eval as_terms 1 (Bgp (pattern (term a) (term c) 1 ∷ [])) (triple a b ∷ triple b c ∷ []) ≡ []
constants_missing = refl

-- no triple pattern: the one row that binds nothing
no_pattern : eval as_terms 2 (Bgp []) (triple a b ∷ []) ≡ (None ∷ None ∷ []) ∷ []
no_pattern = refl

-- ?x p ?x over (a p b), (c p c): the one row c
repeated_variable : eval as_terms 1 (Bgp (pattern x x 1 ∷ [])) (triple a b ∷ triple c c ∷ []) ≡ (Some c ∷ []) ∷ []
repeated_variable = refl

-- {?x p ?y} OPTIONAL {?y p ?z}: the row a b finds a partner, and the row b c none
optional_part : eval as_terms 3 (LeftJoin (Bgp (pattern x y 1 ∷ [])) (Bgp (pattern y z 2 ∷ []))) (triple a b ∷ triple b c ∷ []) ≡ (Some a ∷ Some b ∷ Some c ∷ []) ∷ (Some b ∷ Some c ∷ None ∷ []) ∷ []
optional_part = refl

-- {?x p ?y} OPTIONAL {c p ?z}, where no triple has the subject c: the left rows
optional_missing : eval as_terms 3 (LeftJoin (Bgp (pattern x y 1 ∷ [])) (Bgp (pattern (term c) z 2 ∷ []))) (triple a b ∷ triple b c ∷ []) ≡ (Some a ∷ Some b ∷ None ∷ []) ∷ (Some b ∷ Some c ∷ None ∷ []) ∷ []
optional_missing = refl

-- {?x p b} OPTIONAL {b p ?y OPTIONAL {?y p ?z}}: the inner part has no partner for c, and the row a is merged with b c
optional_nested : eval as_terms 3 (LeftJoin (Bgp (pattern x (term b) 1 ∷ [])) (LeftJoin (Bgp (pattern (term b) y 2 ∷ [])) (Bgp (pattern y z 3 ∷ [])))) (triple a b ∷ triple b c ∷ []) ≡ (Some a ∷ Some c ∷ None ∷ []) ∷ []
optional_nested = refl

-- the Join of two optional parts: a variable that the left row leaves unbound is bound by the right row
joined_optionals : eval as_terms 3 (Join (LeftJoin (Bgp (pattern x y 1 ∷ [])) (Bgp (pattern y z 2 ∷ []))) (Bgp (pattern (term b) y 3 ∷ pattern (term a) z 4 ∷ []))) (triple a b ∷ triple b c ∷ []) ≡ (Some b ∷ Some c ∷ Some b ∷ []) ∷ []
joined_optionals = refl

-- a Join keeps rows that are alike: a b stands twice
join_alike : join as_terms.same ((Some a ∷ None ∷ []) ∷ (None ∷ Some b ∷ []) ∷ []) ((None ∷ Some b ∷ []) ∷ (Some a ∷ None ∷ []) ∷ []) ≡ (Some a ∷ Some b ∷ []) ∷ (Some a ∷ None ∷ []) ∷ (None ∷ Some b ∷ []) ∷ (Some a ∷ Some b ∷ []) ∷ []
join_alike = refl

-- the Join of two patterns without a common variable: each pair
cross_product : eval as_terms 2 (Join (Bgp (pattern x (term b) 1 ∷ [])) (Bgp (pattern y (term c) 2 ∷ []))) (triple a b ∷ triple b c ∷ triple c b ∷ []) ≡ (Some a ∷ Some b ∷ []) ∷ (Some c ∷ Some b ∷ []) ∷ []
cross_product = refl

-- the code's Join and LeftJoin, whose sides stand in boxes
boxed_join : (list other : List TriplePat) → (p q : _) → algebra_of (patterns.Join' p (patterns.Bgp list) q (patterns.Bgp other)) ≡ Join (Bgp list) (Bgp other)
boxed_join list other p q = refl

boxed_left_join : (list other : List TriplePat) → (p q : _) → algebra_of (patterns.LeftJoin' p (patterns.Bgp list) q (patterns.Bgp other)) ≡ LeftJoin (Bgp list) (Bgp other)
boxed_left_join list other p q = refl

-- ---- rows that extend others

-- a row that binds one variable more extends a row, and binds more
extended : Extends (Some a ∷ Some b ∷ []) (Some a ∷ None ∷ []) × BindsMore (Some a ∷ Some b ∷ []) (Some a ∷ None ∷ [])
extended = (λ var value is. step var value is, (1, refl, refl)) where
  step : (var : ℕ) (value : List ℕ) → binding (Some a ∷ None ∷ []) var ≡ Some value → binding (Some a ∷ Some b ∷ []) var ≡ Some value
  step zero value is = is
  step (suc zero) value is = cc
  step (suc (suc var)) value is = is

-- a row with another value does not
not_extended : ¬ Extends (Some a ∷ []) (Some b ∷ [])
not_extended extends = let is = extends 0 b refl in let letters : ◌≡◌ {A = ℕ} 97 98 = ap (λ cell. get_or (text cell) 1 0) is in omega arith where
  text : Option (List ℕ) → List ℕ
  text (Some value) = value
  text None = []

-- ---- where a variable stands

-- ?x p ?y: both variables are nodes, and none is a predicate
nodes : StandsAtNode (Bgp (pattern x y 1 ∷ [])) 0 × StandsAtNode (Bgp (pattern x y 1 ∷ [])) 1
nodes = ((0, pattern x y 1, lit< tt, refl, inl refl), (0, pattern x y 1, lit< tt, refl, inr refl))

no_predicate : (var : ℕ) → ¬ StandsAtPredicate (Bgp (pattern x y 1 ∷ [])) var
no_predicate var stands = let one = Contains-single (pattern x y 1) stands.1 (stands.0, stands.2, stands.3) in subst (λ triple. IsVar triple.predicate var) (sym one) stands.4

-- ---- answers

-- SELECT ?x {?x p ?y}, with or without DISTINCT
abbrev subjects : Bool → Query
subjects distinct = record { names = codes "x" ∷ codes "y" ∷ []; pattern = patterns.Bgp (pattern x y 1 ∷ []); columns = record { 0 = 0 } ∷ []; distinct = distinct }

-- over (b p a), (a p b), (a p c): in order, and a stands twice
subjects_in_order : answers_of (subjects false) (triple b a ∷ triple a b ∷ triple a c ∷ []) ≡ (Some a ∷ []) ∷ (Some a ∷ []) ∷ (Some b ∷ []) ∷ []
subjects_in_order = refl

-- and once with DISTINCT, though the rows of the pattern differ
subjects_distinct : answers_of (subjects true) (triple b a ∷ triple a b ∷ triple a c ∷ []) ≡ (Some a ∷ []) ∷ (Some b ∷ []) ∷ []
subjects_distinct = refl

-- a list of one item
all-single : {X : Type 0} (P : X → Type 0) (item : X) → P item → All P (item ∷ [])
all-single P item h = All-cons P item [] h (All-nil P)

-- ---- solutions

-- the row a binds just the first variable
binds_x : BindsJust (Some a ∷ []) (0 ∷ [])
binds_x zero = (λ _. Contains-head 0 [], λ _. refl)
binds_x (suc k) = (λ some. cc, λ at. let wrong = Contains-single 0 (suc k) at in cc)

-- ?x p b over (a p b): the row a is a solution
a_solution : IsSolution as_terms 1 (pattern x (term b) 1 ∷ []) (triple a b ∷ []) (Some a ∷ [])
a_solution = record {
  width = refl;
  binds = binds_x;
  made = all-single (λ triple_pattern. Any (Makes as_terms (Some a ∷ []) triple_pattern) (triple a b ∷ [])) (pattern x (term b) 1)
      (0, triple a b, lit< tt, refl, record { subject = refl; predicate = refl; object = refl });
}

-- a row that binds a further variable is none
not_a_solution : ¬ IsSolution as_terms 2 (pattern x (term b) 1 ∷ []) (triple a b ∷ []) (Some a ∷ Some b ∷ [])
not_a_solution is = let wrong = Contains-single 0 1 ((is.binds 1).0 refl) in cc

-- ---- limits

-- ?x p ?y . ?y p ?x with these names, of which the second is answered
abbrev query : List (List ℕ) → Query
query names = record { names = names; pattern = patterns.Bgp (pattern x y 1 ∷ pattern y x 2 ∷ []); columns = record { 0 = 1 } ∷ []; distinct = false }

-- one letter of ASCII is ASCII
ascii_letter : (letter : ℕ) → letter < 128 → IsAscii (letter ∷ [])
ascii_letter letter low zero = low
ascii_letter letter low (suc i) = lit< tt

-- and so it is text
one_letter : (letter : ℕ) → letter < 128 → IsUtf8 (letter ∷ [])
one_letter letter low = IsUtf8-from_ascii (letter ∷ []) (ascii_letter letter low)

-- two names that differ
x_is_not_y : codes "x" ≢ codes "y"
x_is_not_y same = let letters : ◌≡◌ {A = ℕ} 120 121 = ap (λ name. get_or name 0 0) same in omega arith

-- the variables of that query are below two
below_two : (k d : ℕ) → k < 4 → get_or (0 ∷ 1 ∷ 1 ∷ 0 ∷ []) k d < 2
below_two k d within = All-from_recursion (λ var. var < 2) (0 ∷ 1 ∷ 1 ∷ 0 ∷ []) (lit< tt, (lit< tt, (lit< tt, (lit< tt, tt)))) k d within

-- a query of two names, two triple patterns and one column keeps the limits
two_names : KeepsLimits (query (codes "x" ∷ codes "y" ∷ []))
two_names = record {
  few_names = lit≤ tt;
  names_are_text = All-cons IsUtf8 (codes "x") (codes "y" ∷ []) (one_letter 120 (lit< tt)) (all-single IsUtf8 (codes "y") (one_letter 121 (lit< tt)));
  names_differ = AllPairs-append (λ first second. first ≢ second) (codes "x" ∷ []) (codes "y" ∷ []) (AllPairs-option (λ first second. first ≢ second) (Some (codes "x"))) (AllPairs-option (λ first second. first ≢ second) (Some (codes "y")))
      (λ first second hx hy same. x_is_not_y (Contains-single (codes "x") first hx ∙ same ∙ sym (Contains-single (codes "y") second hy)));
  pattern = record { vars_below = below_two; few_optional = lit≤ tt; few_triples = lit≤ tt; numbered = refl };
  columns_below = all-single (λ column. column.0 < 2) (record { 0 = 1 }) (lit< tt);
  columns_differ = AllPairs-option (λ first second. first ≢ second) (Some (record { 0 = 1 }));
}

-- a name that stands twice is against them
same_name : ¬ KeepsLimits (query (codes "x" ∷ codes "x" ∷ []))
same_name keeps = keeps.names_differ 0 1 [] (lit< tt) (lit< tt) refl
