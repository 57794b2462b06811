-- Worked examples.
use Rattle.std.proofs.Common.{◌≡◌, ℕ, [], ◌∷◌, Some, refl, inl, inr}
use Rattle.mask_pool.specs.Mask.{Stretch}
use Rattle.tree_relations.specs.declared.prepared.PlaceKind.TheVariants.{Subject, Object, Predicate}
use Rattle.tree_relations.specs.declared.prepared.Entry.{Entry}
use Rattle.tree_relations.specs.declared.prepared.Prepared.{Prepared}
use Rattle.tree_relations.specs.Prepared.{work_bits, masks_of}
use Rattle.tree_relations.specs.Readings.{NumberTriple, value_of, EntryGives, lists_left, ReadsSide}

-- the mask of two bits whose word is in this place
abbrev mask : ℕ → Stretch
mask start = record { start = start; bits = 2 }

-- ?4 p ?2 over the triples a p b, a p c and b p b: b is subject 0 and object 0, a is subject 1, and c is object 1
abbrev entry : Entry
entry = record {
  rel = record {
    lines = record { row = 0; columns = 0 ∷ [] } ∷ record { row = 1; columns = 0 ∷ 1 ∷ [] } ∷ [];
    first = mask 1;
    second = mask 2;
  };
  first = Some (record { kind = Subject; var = record { 0 = 4 } });
  second = Some (record { kind = Object; var = record { 0 = 2 } });
}

-- the first mask has both subjects, and the second one the number 0 alone
abbrev prepared : Prepared
prepared = record {
  pool = record { words = 0 ∷ 3 ∷ 1 ∷ []; spare = 0 };
  entries = entry ∷ [];
  work = mask 0 ∷ [];
  shared = 1;
  subjects = 1;
  objects = 1;
  predicates = 1;
}

-- so the pairs of c are not left, and there is no second triple pattern
left : lists_left prepared 0 ≡ (0, 0) ∷ (1, 0) ∷ []
left = refl

none : lists_left prepared 1 ≡ []
none = refl

-- the term table is b a c p
object_b : value_of prepared Object 0 ≡ 0
object_b = refl

object_c : value_of prepared Object 1 ≡ 2
object_c = refl

predicate_p : value_of prepared Predicate 0 ≡ 3
predicate_p = refl

-- a p b gives ?4 the value of a, and ?2 that of b
subject_given : EntryGives prepared entry (1, 0) 4 1
subject_given = inl (refl, refl)

object_given : EntryGives prepared entry (1, 0) 2 0
object_given = inr (refl, refl)

-- it stands for the triple of the values 1, 3 and 0
abbrev first : NumberTriple
first = record { subject = 1; predicate = 3; object = 0 }

reads : ReadsSide prepared entry.first 1 first
reads = refl

-- a working mask has two bits, and there are three masks
bits : work_bits prepared ≡ 2
bits = refl

masks : masks_of prepared ≡ mask 0 ∷ mask 1 ∷ mask 2 ∷ []
masks = refl
