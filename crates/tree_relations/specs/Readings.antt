-- What the pairs of relations stand for: triples of values, which are the places of terms in the term table of an index.
-- It has the shared terms first, then those that are subjects alone, those that are objects alone, and the predicates.
use Rattle.std.specs.Prelude.{◌≡◌, ◌⊎◌, ℕ, ◌+◌, ◌==◌, Bool, if◌then◌else◌, List, [], Contains, Option, Some, None, nat_lt, slice_get}
use Rattle.alg_model.specs.Eval.{Interpretation}
use Rattle.cube_slices.specs.Lines.{pairs_of}
use Rattle.pattern_rel.specs.Left.{pairs_left}
use Rattle.tree_relations.specs.declared.prepared.PlaceKind.{PlaceKind}
use Rattle.tree_relations.specs.declared.prepared.PlaceKind.TheVariants.{Subject, Object, Predicate}
use Rattle.tree_relations.specs.declared.prepared.SidePlace.{SidePlace}
use Rattle.tree_relations.specs.declared.prepared.Entry.{Entry}
use Rattle.tree_relations.specs.declared.prepared.Prepared.{Prepared}

-- a triple of values
pub record NumberTriple : Type 0 where
  pub subject : ℕ
  pub predicate : ℕ
  pub object : ℕ

-- its value at a place of this kind
abbrev pub part_at : PlaceKind → NumberTriple → ℕ
part_at Subject t = t.subject
part_at Object t = t.object
part_at Predicate t = t.predicate

-- triples of values as they are, where it is told which value stands for which term
abbrev pub as_numbers : (ℕ → List ℕ → Bool) → Interpretation ℕ NumberTriple
as_numbers stands_for = record {
  subject = λ t. t.subject;
  predicate = λ t. t.predicate;
  object = λ t. t.object;
  same = ◌==◌;
  stands_for = stands_for;
}

-- the value of a number at a place of this kind
abbrev pub value_of : Prepared → PlaceKind → ℕ → ℕ
value_of p Subject n = n
value_of p Object n = if nat_lt n p.shared then n else n + p.subjects
value_of p Predicate n = p.shared + p.subjects + p.objects + n

-- the number at a side gives the variable the value
abbrev pub SideGives : Prepared → Option SidePlace → ℕ → ℕ → ℕ → Type 0
SideGives p None n var value = ⊥
SideGives p (Some place) n var value = (place.var.0 ≡ var) × (value_of p place.kind n ≡ value)

-- the pair gives the variable the value
abbrev pub EntryGives : Prepared → Entry → ℕ × ℕ → ℕ → ℕ → Type 0
EntryGives p e pair var value = SideGives p e.first pair.0 var value ⊎ SideGives p e.second pair.1 var value

-- the pairs that are left of the relation of an entry, if there is one
abbrev pub left_of : Prepared → Option Entry → List (ℕ × ℕ)
left_of p None = []
left_of p (Some e) = pairs_left p.pool e.rel

-- the pairs left, by the place of the triple pattern in the text
abbrev pub lists_left : Prepared → ℕ → List (ℕ × ℕ)
lists_left p i = left_of p (slice_get p.entries i)

-- the triples have the values of a side's numbers at its place
abbrev pub ReadsSide : Prepared → Option SidePlace → ℕ → NumberTriple → Type 0
ReadsSide p None n t = Unit {0}
ReadsSide p (Some place) n t = part_at place.kind t ≡ value_of p place.kind n

-- each pair of an entry stands for a triple, which has the values of the pair's numbers where the entry's variables stand
pub record IsReading (p : Prepared) (triple : ℕ → ℕ × ℕ → NumberTriple) : Type 0 where
  pub first : (i : ℕ) (e : Entry) (pair : ℕ × ℕ) → slice_get p.entries i ≡ Some e → Contains (pairs_of e.rel.lines) pair → ReadsSide p e.first pair.0 (triple i pair)
  pub second : (i : ℕ) (e : Entry) (pair : ℕ × ℕ) → slice_get p.entries i ≡ Some e → Contains (pairs_of e.rel.lines) pair → ReadsSide p e.second pair.1 (triple i pair)
