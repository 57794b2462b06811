-- Graph patterns as data without boxes. SPARQL 1.1 Query, sections 18.1.5, 18.1.6 and 18.2.
use Rattle.std.specs.Prelude.{◌≡◌, ◌<◌, ◌+◌, ◌⊎◌, ℕ, List, [], ◌∷◌, ◌++◌, All, Any}
use Rattle.std.specs.List.{flat_map}
use Rattle.alg_model.specs.declared.pattern.Place.{Place}
use Rattle.alg_model.specs.declared.pattern.Place.TheVariants as places
use Rattle.alg_model.specs.declared.pattern.TriplePat.{TriplePat}
use Rattle.alg_model.specs.declared.pattern.Pattern.{Pattern}
use Rattle.alg_model.specs.declared.pattern.Pattern.TheVariants as patterns

pub data Algebra : Type 0 where
  Bgp : List TriplePat → Algebra
  Join : Algebra → Algebra → Algebra
  LeftJoin : Algebra → Algebra → Algebra

-- what a pattern of the code is
abbrev pub algebra_of : Pattern → Algebra
algebra_of (patterns.Bgp list) = Bgp list
algebra_of (patterns.Join' p left q right) = Join (algebra_of left) (algebra_of right)
algebra_of (patterns.LeftJoin' p left q right) = LeftJoin (algebra_of left) (algebra_of right)

-- the variables of a place, of a triple pattern, and of a pattern, by number, as often as they occur
abbrev pub place_vars : Place → List ℕ
place_vars (places.Var var) = var.0 ∷ []
place_vars (places.Term text) = []

abbrev pub triple_vars : TriplePat → List ℕ
triple_vars pattern = place_vars pattern.subject ++ place_vars pattern.predicate ++ place_vars pattern.object

abbrev pub vars_of : Algebra → List ℕ
vars_of (Bgp list) = flat_map triple_vars list
vars_of (Join left right) = vars_of left ++ vars_of right
vars_of (LeftJoin left right) = vars_of left ++ vars_of right

-- each variable of the pattern has a number below n
abbrev pub HasVarsBelow : ℕ → Algebra → Type 0
HasVarsBelow n pattern = All (λ var. var < n) (vars_of pattern)

-- the triple patterns of a pattern, in the order of its text
abbrev pub triple_patterns : Algebra → List TriplePat
triple_patterns (Bgp list) = list
triple_patterns (Join left right) = triple_patterns left ++ triple_patterns right
triple_patterns (LeftJoin left right) = triple_patterns left ++ triple_patterns right

-- how many parts of a pattern are optional
abbrev pub optional_parts : Algebra → ℕ
optional_parts (Bgp list) = 0
optional_parts (Join left right) = optional_parts left + optional_parts right
optional_parts (LeftJoin left right) = optional_parts left + optional_parts right + 1

-- the place is the variable with this number
abbrev pub IsVar : Place → ℕ → Type 0
IsVar (places.Var place) var = place.0 ≡ var
IsVar (places.Term text) var = ⊥

-- the variable is the predicate of a triple pattern of the pattern
abbrev pub StandsAtPredicate : Algebra → ℕ → Type 0
StandsAtPredicate pattern var = Any (λ triple. IsVar triple.predicate var) (triple_patterns pattern)

-- the variable is the subject or the object of a triple pattern of the pattern: a node of the graph
abbrev pub StandsAtNode : Algebra → ℕ → Type 0
StandsAtNode pattern var = Any (λ triple. IsVar triple.subject var ⊎ IsVar triple.object var) (triple_patterns pattern)
