-- Sets of variables as words: bit v of a word says whether variable v is in the set. It carries proofs, and no
-- standard has it.
use Rattle.std.specs.Prelude.{◌≡◌, ◌↔◌, ◌<◌, ◌^◌, ℕ, List, [], ◌∷◌, All, Contains, fold}
use Rattle.std.specs.Int.{bit_at}
use Rattle.std.specs.Int.Bits.{bit_or}
use Rattle.alg_model.specs.declared.pattern.Place.{Place}
use Rattle.alg_model.specs.declared.pattern.Place.TheVariants as places
use Rattle.alg_model.specs.declared.pattern.TriplePat.{TriplePat}
use Rattle.alg_model.specs.Limits.{max_variables}
use Rattle.alg_model.specs.Pattern.{Algebra, Bgp, Join, LeftJoin}

-- the word holds just these variables
abbrev pub HoldsJust : ℕ → List ℕ → Type 0
HoldsJust set vars = (var : ℕ) → (bit_at set var ≡ 1) ↔ Contains vars var

-- the sets of the variables of a place, a triple pattern, a list of them, and a pattern
abbrev pub place_set : Place → ℕ
place_set (places.Var var) = 2 ^ var.0
place_set (places.Term text) = 0

abbrev pub triple_set : TriplePat → ℕ
triple_set pattern = bit_or (bit_or (place_set pattern.subject) (place_set pattern.predicate)) (place_set pattern.object)

abbrev pub list_set : List TriplePat → ℕ
list_set patterns = fold (λ set pattern. bit_or set (triple_set pattern)) 0 patterns

abbrev pub pattern_set : Algebra → ℕ
pattern_set (Bgp list) = list_set list
pattern_set (Join left right) = bit_or (pattern_set left) (pattern_set right)
pattern_set (LeftJoin left right) = bit_or (pattern_set left) (pattern_set right)

-- their variables have room in a word
abbrev pub PlaceFits : Place → Type 0
PlaceFits (places.Var var) = var.0 < max_variables
PlaceFits (places.Term text) = Unit {0}

pub record TripleFits (pattern : TriplePat) : Type 0 where
  pub subject : PlaceFits pattern.subject
  pub predicate : PlaceFits pattern.predicate
  pub object : PlaceFits pattern.object

abbrev pub PatternFits : Algebra → Type 0
PatternFits (Bgp list) = All TripleFits list
PatternFits (Join left right) = PatternFits left × PatternFits right
PatternFits (LeftJoin left right) = PatternFits left × PatternFits right
