-- Triples that triple patterns match, and families of such triples. SPARQL 1.1 Query, section 18.3.1.
use Rattle.std.specs.Prelude.{◌≡◌, ℕ, List, Contains, IsTrue}
use Rattle.alg_model.specs.declared.pattern.Place.{Place}
use Rattle.alg_model.specs.declared.pattern.Place.TheVariants as places
use Rattle.alg_model.specs.declared.pattern.TriplePat.{TriplePat}
use Rattle.alg_model.specs.Eval.{Interpretation}
use Rattle.pattern_tree.specs.Consistent.{TakesValue}
use Rattle.pattern_tree.specs.Solution.{Family}
use Rattle.pattern_tree.specs.Standing.{StandsAt}
use Rattle.pattern_tree.specs.Tree.{TreeNode}

-- where the place is a term, the value stands for it
abbrev pub MayStand : {V X : Type 0} → Interpretation V X → Place → V → Type 0
MayStand interpretation (places.Var var) value = Unit {0}
MayStand interpretation (places.Term text) value = IsTrue (interpretation.stands_for value text)

-- the triple pattern matches the triple: its terms stand there, and each variable takes one value
pub record IsMatch {V X : Type 0} (interpretation : Interpretation V X) (pattern : TriplePat) (triple : X) : Type 0 where
  pub subject : MayStand interpretation pattern.subject (interpretation.subject triple)
  pub predicate : MayStand interpretation pattern.predicate (interpretation.predicate triple)
  pub object : MayStand interpretation pattern.object (interpretation.object triple)
  pub one : (var : ℕ) (v w : V) → TakesValue interpretation pattern triple var v → TakesValue interpretation pattern triple var w → v ≡ w

-- the family lists for each triple pattern of the tree triples that it matches
abbrev pub AreMatches : {V X : Type 0} → Interpretation V X → List TreeNode → Family X → Type 0
AreMatches {V} {X} interpretation tree family = (k : ℕ) (pattern : TriplePat) (triple : X) → StandsAt tree k pattern → Contains (family pattern) triple → IsMatch interpretation pattern triple
