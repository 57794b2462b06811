-- Why a query is refused, whatever the data. That a pattern is to be well designed is of Pérez, Arenas and Gutierrez; the
-- other two causes are this project's own.
use Rattle.std.specs.Prelude.{◌≡◌, ◌≤◌, ℕ, All, Any}
use Rattle.alg_model.specs.declared.pattern.Place.{Place}
use Rattle.alg_model.specs.declared.pattern.Place.TheVariants as places
use Rattle.alg_model.specs.declared.pattern.TriplePat.{TriplePat}
use Rattle.alg_model.specs.Pattern.{Algebra, triple_patterns, StandsAtPredicate, StandsAtNode}
use Rattle.alg_model.specs.WellDesigned.{IsWellDesigned, IsOffender}
use Rattle.well_designed.specs.declared.refusals.Refusal.{Refusal}
use Rattle.well_designed.specs.declared.refusals.Refusal.TheVariants as refusals

-- a variable, and not a term
abbrev pub IsVariable : Place → Type 0
IsVariable (places.Var var) = Unit {0}
IsVariable (places.Term text) = ⊥

-- a variable stands at each place of the triple pattern
pub record HasThreeVariables (triple : TriplePat) : Type 0 where
  pub subject : IsVariable triple.subject
  pub predicate : IsVariable triple.predicate
  pub object : IsVariable triple.object

-- the least number of a triple pattern with three variables
pub record IsThreePlaces (pattern : Algebra) (number : ℕ) : Type 0 where
  pub stands : Any (λ triple. HasThreeVariables triple × (triple.number ≡ number)) (triple_patterns pattern)
  pub least : All (λ triple. HasThreeVariables triple → number ≤ triple.number) (triple_patterns pattern)

-- no triple pattern has three variables
abbrev pub HasNoThreePlaces : Algebra → Type 0
HasNoThreePlaces pattern = All (λ triple. ¬ HasThreeVariables triple) (triple_patterns pattern)

-- the least variable that stands at a predicate place and at a node place
pub record IsCrossPlace (pattern : Algebra) (var : ℕ) : Type 0 where
  pub predicate : StandsAtPredicate pattern var
  pub node : StandsAtNode pattern var
  pub least : (other : ℕ) → StandsAtPredicate pattern other → StandsAtNode pattern other → var ≤ other

-- no variable stands at both
abbrev pub HasNoCrossPlace : Algebra → Type 0
HasNoCrossPlace pattern = (var : ℕ) → StandsAtPredicate pattern var → ¬ StandsAtNode pattern var

-- the pattern is refused so: the first of the three causes that holds
abbrev pub IsRefused : Algebra → Refusal → Type 0
IsRefused pattern (refusals.NotWellDesigned optional var) = IsOffender pattern optional var.0
IsRefused pattern (refusals.ThreePlaces number) = IsWellDesigned pattern × IsThreePlaces pattern number
IsRefused pattern (refusals.CrossPlace var) = IsWellDesigned pattern × HasNoThreePlaces pattern × IsCrossPlace pattern var.0

-- the pattern is accepted: none of them holds
pub record IsAccepted (pattern : Algebra) : Type 0 where
  pub well_designed : IsWellDesigned pattern
  pub no_three_places : HasNoThreePlaces pattern
  pub no_cross_place : HasNoCrossPlace pattern
