-- Carries proofs only: a triple pattern by the numbers of its terms, the sides of its relation, and its pairs.
use Rattle.std.specs.Prelude.{◌≡◌, ◌↔◌, ℕ, ◌+◌, ◌-◌, ◌^◌, ◌<◌, List, [], length, Contains, Option, Some, None, slice_get}
use Rattle.alg_model.specs.declared.pattern.Place.{Place}
use Rattle.alg_model.specs.declared.pattern.Place.TheVariants as places
use Rattle.alg_model.specs.declared.pattern.TriplePat.{TriplePat}
use Rattle.cube_slices.specs.Lines.{Line, LinesAscend, pairs_of}
use Rattle.pattern_rel.specs.Shapes.{lines_of_shape, KnowsColumns}
use Rattle.term_numbers.specs.Numbering.{Terms, Numbering, all_objects, all_subjects, place_of}
use Rattle.term_numbers.specs.Order.{Numbered}
use Rattle.tree_relations.specs.declared.prepared.PlaceKind.{PlaceKind}
use Rattle.tree_relations.specs.declared.prepared.PlaceKind.TheVariants.{Subject, Object, Predicate}
use Rattle.tree_relations.specs.declared.prepared.SidePlace.{SidePlace}
use Rattle.match_relations.specs.declared.borrowed.Borrowed.{Borrowed}
use Rattle.match_relations.specs.declared.part.Part.{Part}
use Rattle.match_relations.specs.declared.part.Part.TheVariants.{Variable, Number}
use Rattle.match_relations.specs.steps.Numbers.{with_number}

-- a place by number: a variable, or the place of a term among texts
abbrev pub part_of : List (List ℕ) → Place → Part
part_of texts (places.Var var) = Variable var
part_of texts (places.Term text) = Number (place_of texts text)

-- the place is a term that is not among the texts
abbrev pub IsMissing : List (List ℕ) → Place → Type 0
IsMissing texts (places.Var var) = ⊥
IsMissing texts (places.Term text) = ¬ Contains texts text

-- the number is below a count
abbrev pub IsWithin : ℕ → Part → Type 0
IsWithin count (Variable var) = Unit {0}
IsWithin count (Number n) = n < count

-- what is found of a place among texts: its part, or that it is missing
abbrev pub IsFound : List (List ℕ) → Place → Option Part → Type 0
IsFound texts place None = IsMissing texts place
IsFound texts place (Some part) = (part ≡ part_of texts place) × IsWithin (length texts) part

-- the part is this variable
abbrev pub HasVar : Part → ℕ → Type 0
HasVar (Variable var) v = var.0 ≡ v
HasVar (Number n) v = ⊥

-- the variable at the first side of the relation: that of the predicate, or of the subject, or of the object
abbrev pub first_side : Part → Part → Part → Option SidePlace
first_side s (Variable p) o = Some (record { kind = Predicate; var = p })
first_side (Variable s) (Number p) o = Some (record { kind = Subject; var = s })
first_side (Number s) (Number p) (Variable o) = Some (record { kind = Object; var = o })
first_side (Number s) (Number p) (Number o) = None

-- and at the second side, where there are two variables
abbrev pub second_side : Part → Part → Part → Option SidePlace
second_side (Variable s) (Variable p) o = Some (record { kind = Subject; var = s })
second_side (Number s) (Variable p) (Variable o) = Some (record { kind = Object; var = o })
second_side (Number s) (Variable p) (Number o) = None
second_side (Variable s) (Number p) (Variable o) = Some (record { kind = Object; var = o })
second_side (Variable s) (Number p) (Number o) = None
second_side (Number s) (Number p) o = None

-- the numbers of the triple that a pair stands for
abbrev pub subject_at : Part → Part → ℕ × ℕ → ℕ
subject_at (Number s) p pair = s
subject_at (Variable s) (Variable p) pair = pair.1
subject_at (Variable s) (Number p) pair = pair.0

abbrev pub predicate_at : Part → ℕ × ℕ → ℕ
predicate_at (Number p) pair = p
predicate_at (Variable p) pair = pair.0

abbrev pub object_at : Part → Part → Part → ℕ × ℕ → ℕ
object_at s p (Number o) pair = o
object_at (Number s) (Number p) (Variable o) pair = pair.0
object_at (Number s) (Variable p) (Variable o) pair = pair.1
object_at (Variable s) p (Variable o) pair = pair.1

abbrev pub triple_of : Part → Part → Part → ℕ × ℕ → Numbered
triple_of s p o pair = (subject_at s p pair, predicate_at p pair, object_at s p o pair)

-- the number of a triple at a side, and 0 where the side has no variable
abbrev pub number_at : PlaceKind → Numbered → ℕ
number_at Subject t = t.0
number_at Predicate t = t.1
number_at Object t = t.2

abbrev pub number_or_zero : Option SidePlace → Numbered → ℕ
number_or_zero None t = 0
number_or_zero (Some place) t = number_at place.kind t

-- the pair of a triple
abbrev pub pair_of_triple : Part → Part → Part → Numbered → ℕ × ℕ
pair_of_triple s p o t = (number_or_zero (first_side s p o) t, number_or_zero (second_side s p o) t)

-- where one variable is subject and object, the triple has one number at both, which is that of a shared term
abbrev pub MeetsItself : ℕ → Part → Part → Numbered → Type 0
MeetsItself shared s o t = (v : ℕ) → HasVar s v → HasVar o v → (t.0 ≡ t.2) × (t.0 < shared)

-- the pair stands for one of the triples, and is the pair of that triple
pub record IsPairOf (triples : List Numbered) (shared : ℕ) (s p o : Part) (pair : ℕ × ℕ) : Type 0 where
  pub there : Contains triples (triple_of s p o pair)
  pub again : pair_of_triple s p o (triple_of s p o pair) ≡ pair
  pub itself : MeetsItself shared s o (triple_of s p o pair)

-- the lines have just these pairs
pub record Lists (triples : List Numbered) (shared : ℕ) (s p o : Part) (ls : List Line) : Type 0 where
  pub pairs : (pair : ℕ × ℕ) → Contains (pairs_of ls) pair ↔ IsPairOf triples shared s p o pair

-- the part of a triple pattern at each of its places
abbrev pub subject_part : Terms → TriplePat → Part
subject_part terms pattern = part_of (all_subjects terms) pattern.subject

abbrev pub predicate_part : Terms → TriplePat → Part
predicate_part terms pattern = part_of terms.predicates pattern.predicate

abbrev pub object_part : Terms → TriplePat → Part
object_part terms pattern = part_of (all_objects terms) pattern.object

-- one of the parts is a term
abbrev pub HasNumber : Part → Part → Part → Type 0
HasNumber (Variable s) (Variable p) (Variable o) = ⊥
HasNumber s p o = Unit {0}

-- what is borrowed for a triple pattern: its sides, and lines that have just its pairs
pub record IsBorrowed (n : Numbering) (pattern : TriplePat) (b : Borrowed) : Type 0 where
  pub first : b.first ≡ first_side (subject_part n.terms pattern) (predicate_part n.terms pattern) (object_part n.terms pattern)
  pub second : b.second ≡ second_side (subject_part n.terms pattern) (predicate_part n.terms pattern) (object_part n.terms pattern)
  pub lists : Lists n.triples (length n.terms.shared) (subject_part n.terms pattern) (predicate_part n.terms pattern) (object_part n.terms pattern) (lines_of_shape b.shape)
  pub knows : KnowsColumns b.shape
  pub ascend : LinesAscend 0 (2 ^ 32 - 1) (2 ^ 32 - 1) (lines_of_shape b.shape)

-- what is borrowed where there is no triple pattern: nothing
pub record BorrowsNothing (b : Borrowed) : Type 0 where
  pub first : b.first ≡ None
  pub second : b.second ≡ None
  pub lines : lines_of_shape b.shape ≡ []
  pub knows : KnowsColumns b.shape

abbrev pub IsBorrowedAt : Numbering → Option TriplePat → Borrowed → Type 0
IsBorrowedAt n None b = BorrowsNothing b
IsBorrowedAt n (Some pattern) b = IsBorrowed n pattern b

-- what is borrowed for the numbers from 1 on
abbrev pub AreBorrowed : Numbering → List TriplePat → List Borrowed → Type 0
AreBorrowed n patterns bs = (i : ℕ) (b : Borrowed) → slice_get bs i ≡ Some b → IsBorrowedAt n (with_number (i + 1) patterns) b
