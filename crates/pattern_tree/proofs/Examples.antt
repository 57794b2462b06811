-- Worked examples, by computation: trees of patterns, the triple patterns of a set of nodes, and the maximal row of a
-- pattern of four nodes, of which two find no match.
use Rattle.std.proofs.Common.{◌≡◌, ℕ, zero, suc, ◌<◌, Bool, true, false, eqb, List, [], ◌∷◌, get_or, Option, Some, None, All, Contains, codes, refl, sym, subst, lit<, eq-eqb}
use Rattle.std.proofs.lemmas.List.Elements.{All-nil, All-cons, All-contains, All-from_recursion}
use Rattle.std.proofs.lemmas.List.Folds.{list_any_at}
use Rattle.std.specs.List.{list_any}
use Rattle.bm_term.specs.declared.triple.Triple.{Triple}
use Rattle.bm_term.proofs.Elements.{Contains-head, Contains-nil}
use Rattle.alg_model.specs.declared.pattern.Place.TheVariants as places
use Rattle.alg_model.specs.declared.pattern.TriplePat.{TriplePat}
use Rattle.alg_model.specs.Row.{Row}
use Rattle.alg_model.specs.Pattern.{Algebra, Bgp, Join, LeftJoin, HasVarsBelow, vars_of}
use Rattle.alg_model.specs.Eval.{as_terms, eval}
use Rattle.alg_model.specs.WellDesigned.{OptionalPart, IsFine, IsWellDesigned}
use Rattle.alg_model.proofs.BasicPatterns.{as_terms-values}
use Rattle.pattern_tree.specs.Solution.{all_matches, IsMaximalRow}
use Rattle.pattern_tree.specs.Tree.{TreeNode, tree_of, patterns_of}
use Rattle.pattern_tree.proofs.PatternTrees.{law-exactly}

-- ?v name ?w, as the triple pattern with a number
abbrev triple : ℕ → List ℕ → ℕ → ℕ → TriplePat
triple v name w number = record { subject = places.Var (record { 0 = v }); predicate = places.Term name; object = places.Var (record { 0 = w }); number = number }

abbrev one : TriplePat → Algebra
one pattern = Bgp (pattern ∷ [])

abbrev a : TriplePat
a = triple 0 (codes "<p>") 1 1

abbrev b : TriplePat
b = triple 1 (codes "<q>") 2 2

abbrev c : TriplePat
c = triple 2 (codes "<r>") 3 3

abbrev d : TriplePat
d = triple 3 (codes "<s>") 4 4

abbrev node : Option ℕ → List TriplePat → TreeNode
node parent patterns = record { parent = parent; patterns = patterns }

-- a OPTIONAL {b OPTIONAL {c OPTIONAL {d}}}: each node hangs from the one before
abbrev chain : Algebra
chain = LeftJoin (one a) (LeftJoin (one b) (LeftJoin (one c) (one d)))

tree_of_chain : tree_of chain ≡ node None (a ∷ []) ∷ node (Some 0) (b ∷ []) ∷ node (Some 1) (c ∷ []) ∷ node (Some 2) (d ∷ []) ∷ []
tree_of_chain = refl

-- a OPTIONAL {b OPTIONAL {c}} OPTIONAL {d}: the last hangs from the root
tree_of_siblings : tree_of (LeftJoin (LeftJoin (one a) (LeftJoin (one b) (one c))) (one d)) ≡ node None (a ∷ []) ∷ node (Some 0) (b ∷ []) ∷ node (Some 1) (c ∷ []) ∷ node (Some 0) (d ∷ []) ∷ []
tree_of_siblings = refl

-- {a OPTIONAL {b}} {c OPTIONAL {d}}: the two roots are one node
tree_of_joined : tree_of (Join (LeftJoin (one a) (one b)) (LeftJoin (one c) (one d))) ≡ node None (a ∷ c ∷ []) ∷ node (Some 0) (b ∷ []) ∷ node (Some 0) (d ∷ []) ∷ []
tree_of_joined = refl

-- the triple patterns of the first two nodes of the chain
abbrev first_two : ℕ → Bool
first_two zero = true
first_two (suc zero) = true
first_two (suc (suc k)) = false

their_patterns : patterns_of (tree_of chain) first_two ≡ a ∷ b ∷ []
their_patterns = refl

-- over four triples of which the last two hang together, and not with the first two
abbrev fact : List ℕ → List ℕ → List ℕ → Triple
fact subject predicate object = record { subject = subject; predicate = predicate; object = object }

abbrev facts : List Triple
facts = fact (codes "<a>") (codes "<p>") (codes "<b>") ∷ fact (codes "<b>") (codes "<q>") (codes "<c>") ∷ fact (codes "<d>") (codes "<r>") (codes "<e>") ∷ fact (codes "<e>") (codes "<s>") (codes "<f>") ∷ []

abbrev row : Row (List ℕ)
row = Some (codes "<a>") ∷ Some (codes "<b>") ∷ Some (codes "<c>") ∷ None ∷ None ∷ []

-- the chain has one row
evaluated : eval as_terms 5 chain facts ≡ row ∷ []
evaluated = refl

-- ---- the row is maximal

-- a variable that a list lacks
not_in : (vars : List ℕ) (var : ℕ) → list_any (eqb var) vars ≡ false → Contains vars var → ⊥
not_in vars var none at = let some = list_any_at (eqb var) vars at.0 var at.1 (eq-eqb var (get_or vars at.0 var) (sym at.2)) in cc

-- what is asked of each variable that occurs outside of an OPTIONAL
abbrev IsKept : Algebra → Algebra → ℕ → Type 0
IsKept left right var = Contains (vars_of right) var → Contains (vars_of left) var

-- the OPTIONALs of the chain are fine: no variable of a right side occurs outside
second_fine : All (IsKept (one b) (LeftJoin (one c) (one d))) (0 ∷ 1 ∷ [])
second_fine =
    let kept = IsKept (one b) (LeftJoin (one c) (one d)) in
    All-cons kept 0 (1 ∷ []) (λ at. absurd (not_in (2 ∷ 3 ∷ 3 ∷ 4 ∷ []) 0 refl at)) (All-cons kept 1 [] (λ at. absurd (not_in (2 ∷ 3 ∷ 3 ∷ 4 ∷ []) 1 refl at)) (All-nil kept))

third_fine : All (IsKept (one c) (one d)) (0 ∷ 1 ∷ 1 ∷ 2 ∷ [])
third_fine =
    let kept = IsKept (one c) (one d) in
    let lacks = λ (var : ℕ) (none : list_any (eqb var) (3 ∷ 4 ∷ []) ≡ false) (at : Contains (3 ∷ 4 ∷ []) var). not_in (3 ∷ 4 ∷ []) var none at in
    All-cons kept 0 (1 ∷ 1 ∷ 2 ∷ []) (λ at. absurd (lacks 0 refl at)) (All-cons kept 1 (1 ∷ 2 ∷ []) (λ at. absurd (lacks 1 refl at)) (All-cons kept 1 (2 ∷ []) (λ at. absurd (lacks 1 refl at)) (All-cons kept 2 [] (λ at. absurd (lacks 2 refl at)) (All-nil kept))))

chain_well_designed : IsWellDesigned chain
chain_well_designed =
    let first : OptionalPart = record { left = one a; right = LeftJoin (one b) (LeftJoin (one c) (one d)); outside = [] } in
    let second : OptionalPart = record { left = one b; right = LeftJoin (one c) (one d); outside = 0 ∷ 1 ∷ [] } in
    let third : OptionalPart = record { left = one c; right = one d; outside = 0 ∷ 1 ∷ 1 ∷ 2 ∷ [] } in
    All-cons IsFine first (second ∷ third ∷ []) (λ var inside out. absurd (Contains-nil var out))
    (All-cons IsFine second (third ∷ []) (λ var inside out. All-contains (IsKept (one b) (LeftJoin (one c) (one d))) (0 ∷ 1 ∷ []) var second_fine out inside)
    (All-cons IsFine third [] (λ var inside out. All-contains (IsKept (one c) (one d)) (0 ∷ 1 ∷ 1 ∷ 2 ∷ []) var third_fine out inside) (All-nil IsFine)))

chain_below : HasVarsBelow 5 chain
chain_below = All-from_recursion (λ var. var < 5) (0 ∷ 1 ∷ 1 ∷ 2 ∷ 2 ∷ 3 ∷ 3 ∷ 4 ∷ []) (lit< tt, (lit< tt, (lit< tt, (lit< tt, (lit< tt, (lit< tt, (lit< tt, (lit< tt, tt))))))))

-- by the law: it is extended by no partial solution that binds more, though the last two triples make one node each
maximal : IsMaximalRow as_terms 5 (tree_of chain) (all_matches as_terms 5 facts) row
maximal = (law-exactly as_terms as_terms-values 5 facts chain [] chain_well_designed chain_below row).0 (subst (λ rows. Contains rows row) (sym evaluated) (Contains-head row []))
