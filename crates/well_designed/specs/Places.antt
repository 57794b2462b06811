-- What the search for places answers. It carries proofs, and nothing public rests on it.
use Rattle.std.specs.Prelude.{ℕ, min, Bool, true, false, ◌&&◌, if◌then◌else◌, List, fold, Option, Some, None}
use Rattle.std.specs.Int.Bits.{bit_or}
use Rattle.alg_model.specs.declared.pattern.Place.{Place}
use Rattle.alg_model.specs.declared.pattern.Place.TheVariants as places
use Rattle.alg_model.specs.declared.pattern.TriplePat.{TriplePat}
use Rattle.alg_model.specs.Pattern.{Algebra, Bgp, Join, LeftJoin}
use Rattle.alg_model.specs.VarSet.{place_set}

-- whether a variable stands at a place, and at each place of a triple pattern
abbrev pub is_variable : Place → Bool
is_variable (places.Var var) = true
is_variable (places.Term text) = false

abbrev pub has_three_variables : TriplePat → Bool
has_three_variables triple = is_variable triple.subject && is_variable triple.predicate && is_variable triple.object

-- the lesser of two numbers that may be there
abbrev pub lesser : Option ℕ → Option ℕ → Option ℕ
lesser (Some number) (Some other) = Some (min number other)
lesser (Some number) None = Some number
lesser None other = other

-- the least number of a triple pattern with three variables: of one, of a list, of a pattern
abbrev pub own_number : TriplePat → Option ℕ
own_number triple = if has_three_variables triple then Some triple.number else None

abbrev pub list_number : List TriplePat → Option ℕ
list_number list = fold (λ least triple. lesser least (own_number triple)) None list

abbrev pub pattern_number : Algebra → Option ℕ
pattern_number (Bgp list) = list_number list
pattern_number (Join left right) = lesser (pattern_number left) (pattern_number right)
pattern_number (LeftJoin left right) = lesser (pattern_number left) (pattern_number right)

-- the set of the variables at the predicate places, and at the node places: of a triple pattern, of a list, of a pattern
abbrev pub predicate_set : TriplePat → ℕ
predicate_set triple = place_set triple.predicate

abbrev pub node_set : TriplePat → ℕ
node_set triple = bit_or (place_set triple.subject) (place_set triple.object)

abbrev pub list_set_by : (TriplePat → ℕ) → List TriplePat → ℕ
list_set_by word list = fold (λ set triple. bit_or set (word triple)) 0 list

abbrev pub set_by : (TriplePat → ℕ) → Algebra → ℕ
set_by word (Bgp list) = list_set_by word list
set_by word (Join left right) = bit_or (set_by word left) (set_by word right)
set_by word (LeftJoin left right) = bit_or (set_by word left) (set_by word right)
