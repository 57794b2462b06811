-- Carries proofs only: two cells, and two rows, are the same exactly where they compare as equal.
use Rattle.std.specs.Prelude.{◌≡◌, ℕ, ◌==◌, List, Option, Some, None, refl}
use Rattle.std.specs.Option.{option_eq, option_cmp}
use Rattle.std.specs.Ordering.{eq_by_cmp, nat_cmp}
use Rattle.std.specs.Cmp.Lexicographic.{pointwise, slice_cmp, lists_ties, texts_ties}

-- cells
pub cells_tie : (x y : Option (List ℕ)) → option_eq (pointwise ◌==◌) x y ≡ eq_by_cmp (option_cmp (slice_cmp nat_cmp)) x y
cells_tie None None = refl
cells_tie None (Some y) = refl
cells_tie (Some x) None = refl
cells_tie (Some x) (Some y) = texts_ties x y

-- rows
pub rows_tie : (r s : List (Option (List ℕ))) → pointwise (option_eq (pointwise ◌==◌)) r s ≡ eq_by_cmp (slice_cmp (option_cmp (slice_cmp nat_cmp))) r s
rows_tie = lists_ties (option_cmp (slice_cmp nat_cmp)) cells_tie
