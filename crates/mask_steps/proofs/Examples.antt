-- Worked examples.
use Rattle.std.proofs.Common.{◌≡◌, ℕ, [], ◌∷◌, Some, None, refl, inr, arith}
use Rattle.mask_pool.specs.Mask.{Stretch}
use Rattle.tree_relations.specs.declared.prepared.PlaceKind.TheVariants.{Subject, Object, Predicate}
use Rattle.tree_relations.specs.declared.prepared.Entry.{Entry}
use Rattle.tree_relations.specs.declared.prepared.Prepared.{Prepared}
use Rattle.mask_steps.specs.Held.{HasValue, OccursAt}
use Rattle.mask_steps.specs.Measure.{mask_bits}
use Rattle.mask_steps.specs.steps.Cuts.{cut_of}

-- the mask of two bits whose word is in this place
abbrev mask : ℕ → Stretch
mask start = record { start = start; bits = 2 }

-- ?0 p ?1 over the triples a p b, a p c and b p b: b is subject 0 and object 0, a is subject 1, and c is object 1
abbrev entry : Entry
entry = record {
  rel = record {
    lines = record { row = 0; columns = 0 ∷ [] } ∷ record { row = 1; columns = 0 ∷ 1 ∷ [] } ∷ [];
    first = mask 3;
    second = mask 4;
  };
  first = Some (record { kind = Subject; var = record { 0 = 0 } });
  second = Some (record { kind = Object; var = record { 0 = 1 } });
}

-- the working mask of ?0 has the number 1, that of ?1 has nothing yet, and the last one is no variable's
abbrev prepared : Prepared
prepared = record {
  pool = record { words = 2 ∷ 0 ∷ 0 ∷ 3 ∷ 3 ∷ []; spare = 0 };
  entries = entry ∷ [];
  work = mask 0 ∷ mask 1 ∷ mask 2 ∷ [];
  shared = 1;
  subjects = 1;
  objects = 1;
  predicates = 1;
}

-- ?0 holds the value of a, which is subject 1
subject_held : HasValue prepared (Some Subject ∷ None ∷ []) 0 1
subject_held = (1, record { within = omega arith; mask = mask 0; at = refl; has = refl }, omega arith, refl)

-- if its numbers are those of objects, the same mask holds the value of c
object_held : HasValue prepared (Some Object ∷ None ∷ []) 0 2
object_held = (1, record { within = omega arith; mask = mask 0; at = refl; has = refl }, omega arith, refl)

-- ?1 holds all values, also one that is no term's
all_held : HasValue prepared (Some Subject ∷ None ∷ []) 1 70
all_held = tt

-- c is the value of ?1 in the pair (1, 1), the last of three
occurs : OccursAt prepared 0 1 2
occurs = ((1, 1), (2, omega arith, refl), (entry, refl, inr (refl, refl)))

-- the two masks of the relation have two numbers each
measure : mask_bits prepared ≡ 4
measure = refl

-- a subject and an object have the first of the terms in common, and a subject and a predicate none
nodes : cut_of 1 Subject Object ≡ Some 1
nodes = refl

apart : cut_of 1 Subject Predicate ≡ Some 0
apart = refl
