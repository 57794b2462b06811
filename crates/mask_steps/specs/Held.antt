-- The values that a variable holds: those of the numbers in its working mask, or all values.
use Rattle.std.specs.Prelude.{◌≡◌, ◌↔◌, ◌⊎◌, ℕ, ◌+◌, ◌<◌, List, length, Contains, Option, Some, None, slice_get, slice_index_or}
use Rattle.row_lanes.specs.Words.{Has}
use Rattle.mask_pool.specs.Mask.{Stretch}
use Rattle.mask_pool.specs.Region.{words_of}
use Rattle.tree_relations.specs.declared.prepared.PlaceKind.{PlaceKind}
use Rattle.tree_relations.specs.declared.prepared.PlaceKind.TheVariants.{Predicate}
use Rattle.tree_relations.specs.declared.prepared.Entry.{Entry}
use Rattle.tree_relations.specs.declared.prepared.Prepared.{Prepared}
use Rattle.tree_relations.specs.Prepared.{count_of, FitsTogether}
use Rattle.tree_relations.specs.Fits.{IsSide}
use Rattle.tree_relations.specs.Readings.{value_of, EntryGives, lists_left}

-- the kind of the numbers in a variable's working mask, and none where the variable holds all values
abbrev pub kind_in : List (Option PlaceKind) → ℕ → Option PlaceKind
kind_in kinds var = slice_index_or kinds var None

-- the number is in the working mask of the variable. The last working mask is no variable's
pub record HasNumber (p : Prepared) (var n : ℕ) : Type 0 where
  pub within : var + 1 < length p.work
  pub mask : Stretch
  pub at : slice_get p.work var ≡ Some mask
  pub has : Has (words_of p.pool mask) n

-- the value is that of a number in the variable's working mask, where that has numbers of this kind
abbrev pub HasValueOf : Prepared → Option PlaceKind → ℕ → ℕ → Type 0
HasValueOf p None var value = Unit {0}
HasValueOf p (Some kind) var value = (n : ℕ) × HasNumber p var n × (n < count_of p kind) × (value_of p kind n ≡ value)

-- the variable holds the value
abbrev pub HasValue : Prepared → List (Option PlaceKind) → ℕ → ℕ → Type 0
HasValue p kinds var value = HasValueOf p (kind_in kinds var) var value

-- the pair of the entry in this place gives the variable the value
abbrev pub GivesAt : Prepared → ℕ → ℕ × ℕ → ℕ → ℕ → Type 0
GivesAt p i pair var value = (e : Entry) × (slice_get p.entries i ≡ Some e) × EntryGives p e pair var value

-- some pair that is left of the entry in this place gives the variable the value
abbrev pub OccursAt : Prepared → ℕ → ℕ → ℕ → Type 0
OccursAt p i var value = (pair : ℕ × ℕ) × Contains (lists_left p i) pair × GivesAt p i pair var value

-- both places are predicates, or neither is one
abbrev pub MayMeet : PlaceKind → PlaceKind → Type 0
MayMeet a b = (a ≡ Predicate) ↔ (b ≡ Predicate)

-- the variable stands at a side of the entry in this place, and not at a predicate place and at another one
pub record IsVarAt (p : Prepared) (i var : ℕ) : Type 0 where
  pub entry : Entry
  pub at : slice_get p.entries i ≡ Some entry
  pub some : (kind : PlaceKind) × (IsSide entry.first kind var ⊎ IsSide entry.second kind var)
  pub meet : (a b : PlaceKind) → IsSide entry.first a var → IsSide entry.second b var → MayMeet a b

-- nothing but the pool has changed, and what is prepared fits together still
pub record HasLayoutOf (old new : Prepared) : Type 0 where
  pub same : new ≡ record old { pool = new.pool }
  pub fits : FitsTogether new
