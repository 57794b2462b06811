-- Sets, kept as lists: each item once, in ascending order. They are no standard's.
use Rattle.std.specs.Prelude.{◌↔◌, List, [], fold, Contains}
use Rattle.std.specs.declared.cmp.Ordering.{Ordering}
use Rattle.std.specs.List.Sorted.{IsStrictlySortedBy}
use Rattle.std.specs.BTreeSet.{insert_key}

-- the list has just the items of another, and each item is less than those after it
pub record IsSetOf {X : Type 0} (cmp : X → X → Ordering) (items set : List X) : Type 0 where
  pub ascends : IsStrictlySortedBy cmp set
  pub same : (x : X) → Contains set x ↔ Contains items x

-- the set of a list: each item is put at its place in the order, unless it stands there
abbrev pub set_of : {X : Type 0} → (X → X → Ordering) → List X → List X
set_of cmp items = fold (insert_key cmp) [] items
