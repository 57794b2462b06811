-- The solutions of a basic graph pattern. SPARQL 1.1 Query, section 18.3.1. A place is a
-- variable, or a term that is matched as it stands, so a row alone says what a triple pattern becomes.
use Rattle.std.specs.Prelude.{◌≡◌, ◌≢◌, ◌↔◌, ℕ, List, All, AllPairs, Any, Contains, length, Some, IsSome, IsTrue}
use Rattle.alg_model.specs.declared.pattern.Place.{Place}
use Rattle.alg_model.specs.declared.pattern.Place.TheVariants as places
use Rattle.alg_model.specs.declared.pattern.TriplePat.{TriplePat}
use Rattle.alg_model.specs.Row.{Row, binding}
use Rattle.alg_model.specs.Pattern.{Bgp, vars_of}
use Rattle.alg_model.specs.Eval.{Interpretation}

-- the row binds just these variables: they are its domain (section 18.1.8)
abbrev pub BindsJust : {V : Type 0} → Row V → List ℕ → Type 0
BindsJust row vars = (var : ℕ) → IsSome (binding row var) ↔ Contains vars var

-- what a place of a triple pattern becomes under a row: a variable the value that it is bound to, and a
-- term a value that stands for it (section 18.3.1)
abbrev pub Becomes : {V X : Type 0} → Interpretation V X → Row V → Place → V → Type 0
Becomes interpretation row (places.Var var) value = binding row var.0 ≡ Some value
Becomes interpretation row (places.Term text) value = IsTrue (interpretation.stands_for value text)

-- the row makes the triple pattern the triple (section 18.3.1)
pub record Makes {V X : Type 0} (interpretation : Interpretation V X) (row : Row V) (pattern : TriplePat) (triple : X) : Type 0 where
  pub subject : Becomes interpretation row pattern.subject (interpretation.subject triple)
  pub predicate : Becomes interpretation row pattern.predicate (interpretation.predicate triple)
  pub object : Becomes interpretation row pattern.object (interpretation.object triple)

-- a solution of a basic graph pattern over triples: a row of n cells that binds just the variables of the
-- pattern, and makes each of its triple patterns one of the triples (section 18.3.1)
pub record IsSolution {V X : Type 0} (interpretation : Interpretation V X) (n : ℕ) (patterns : List TriplePat) (triples : List X) (row : Row V) : Type 0 where
  pub width : length row ≡ n
  pub binds : BindsJust row (vars_of (Bgp patterns))
  pub made : All (λ pattern. Any (Makes interpretation row pattern) triples) patterns

-- the rows are exactly the solutions, each once (section 18.3.1)
pub record AreSolutions {V X : Type 0} (interpretation : Interpretation V X) (n : ℕ) (patterns : List TriplePat) (triples : List X) (rows : List (Row V)) : Type 0 where
  pub exactly : (row : Row V) → Contains rows row ↔ IsSolution interpretation n patterns triples row
  pub once : AllPairs (λ r s. r ≢ s) rows

-- The rest is no standard's: what the laws ask of an interpretation and of a list of triples.

-- the test says when two values are one
abbrev pub TellsValues : {V X : Type 0} → Interpretation V X → Type 0
TellsValues {V} interpretation = (v w : V) → IsTrue (interpretation.same v w) ↔ (v ≡ w)

-- at this place of the triples no text has two values that stand for it
abbrev pub HasOneValue : {V X : Type 0} → Interpretation V X → (X → V) → List X → Type 0
HasOneValue {V} {X} interpretation place triples = (t u : X) (text : List ℕ) → Contains triples t → Contains triples u →
    IsTrue (interpretation.stands_for (place t) text) → IsTrue (interpretation.stands_for (place u) text) → place t ≡ place u

-- the triples are told apart: at each of the three places a text has one value, and two triples with the same three
-- values are one
pub record TellsTriples {V X : Type 0} (interpretation : Interpretation V X) (triples : List X) : Type 0 where
  pub subjects : HasOneValue interpretation interpretation.subject triples
  pub predicates : HasOneValue interpretation interpretation.predicate triples
  pub objects : HasOneValue interpretation interpretation.object triples
  pub one_triple : (t u : X) → Contains triples t → Contains triples u → interpretation.subject t ≡ interpretation.subject u →
      interpretation.predicate t ≡ interpretation.predicate u → interpretation.object t ≡ interpretation.object u → t ≡ u
