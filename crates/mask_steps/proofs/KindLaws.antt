-- Which numbers of two kinds of places have the same value.
use Rattle.std.proofs.Common.{◌≡◌, ℕ, ◌<◌, Option, Some, None, true, refl, arith, lt-ltb}
use Rattle.std.proofs.lemmas.Bool.{ltb-true}
use Rattle.std.proofs.lemmas.Bool.Decides.{nat_tests}
use Rattle.mask_pool.specs.Region.{Region}
use Rattle.pattern_rel.specs.Folds.{IsBelow, is_below}
use Rattle.tree_relations.specs.declared.prepared.PlaceKind.{PlaceKind}
use Rattle.tree_relations.specs.declared.prepared.PlaceKind.TheVariants.{Subject, Object, Predicate}
use Rattle.tree_relations.specs.declared.prepared.Prepared.{Prepared}
use Rattle.tree_relations.specs.Prepared.{count_of}
use Rattle.tree_relations.specs.Readings.{value_of}
use Rattle.mask_steps.specs.Held.{MayMeet}
use Rattle.mask_steps.specs.steps.Cuts.{cut_of}

-- another pool changes no count and no value
pub count_moved : (p : Prepared) (q : Region) (kind : PlaceKind) → count_of (record p { pool = q }) kind ≡ count_of p kind
count_moved p q Subject = refl
count_moved p q Object = refl
count_moved p q Predicate = refl

pub value_moved : (p : Prepared) (q : Region) (kind : PlaceKind) (n : ℕ) → value_of (record p { pool = q }) kind n ≡ value_of p kind n
value_moved p q Subject n = refl
value_moved p q Object n = refl
value_moved p q Predicate n = refl

-- a number of each kind with one value are one number, which is below the cut
pub values_meet : (p : Prepared) (a b : PlaceKind) (n m : ℕ) → n < count_of p a → m < count_of p b → value_of p a n ≡ value_of p b m → (n ≡ m) × IsBelow (cut_of p.shared a b) n
values_meet p Subject Subject n m small less same = (same, tt)
values_meet p Subject Object n m small less same = (grind (arith, nat_tests), grind (arith, nat_tests))
values_meet p Subject Predicate n m small less same = absurd (omega arith)
values_meet p Object Subject n m small less same = (grind (arith, nat_tests), grind (arith, nat_tests))
values_meet p Object Object n m small less same = (grind (arith, nat_tests), tt)
values_meet p Object Predicate n m small less same = absurd (grind (arith, nat_tests))
values_meet p Predicate Subject n m small less same = absurd (omega arith)
values_meet p Predicate Object n m small less same = absurd (grind (arith, nat_tests))
values_meet p Predicate Predicate n m small less same = (omega arith, tt)

-- a number below the cut is one of the other kind, with the same value
pub values_same : (p : Prepared) (a b : PlaceKind) (n : ℕ) → n < count_of p a → IsBelow (cut_of p.shared a b) n → (n < count_of p b) × (value_of p a n ≡ value_of p b n)
values_same p Subject Subject n small below = (small, refl)
values_same p Subject Object n small below = (omega arith, grind (arith, nat_tests))
values_same p Subject Predicate n small below = absurd (omega arith)
values_same p Object Subject n small below = (omega arith, grind (arith, nat_tests))
values_same p Object Object n small below = (small, refl)
values_same p Object Predicate n small below = absurd (omega arith)
values_same p Predicate Subject n small below = absurd (omega arith)
values_same p Predicate Object n small below = absurd (omega arith)
values_same p Predicate Predicate n small below = (small, refl)

-- a shared term has one value at each node place
pub shared_same : (p : Prepared) (a b : PlaceKind) (n : ℕ) → MayMeet a b → n < p.shared → value_of p a n ≡ value_of p b n
shared_same p Subject Subject n meet below = refl
shared_same p Subject Object n meet below = grind (arith, nat_tests)
shared_same p Subject Predicate n meet below = (let never = meet.1 refl in cc)
shared_same p Object Subject n meet below = grind (arith, nat_tests)
shared_same p Object Object n meet below = refl
shared_same p Object Predicate n meet below = (let never = meet.1 refl in cc)
shared_same p Predicate Subject n meet below = (let never = meet.0 refl in cc)
shared_same p Predicate Object n meet below = (let never = meet.0 refl in cc)
shared_same p Predicate Predicate n meet below = refl

-- ---- the cut as a test

pub below-true : (cut : Option ℕ) (n : ℕ) → IsBelow cut n → is_below cut n ≡ true
below-true None n below = refl
below-true (Some cut) n below = lt-ltb n cut below

pub true-below : (cut : Option ℕ) (n : ℕ) → is_below cut n ≡ true → IsBelow cut n
true-below None n below = tt
true-below (Some cut) n below = ltb-true n cut below
