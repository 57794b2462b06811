-- The order of rows of texts is total, and only equal rows tie.
use Rattle.std.proofs.Common.{Some, None, refl, ap}
use Rattle.std.proofs.lemmas.Map.Lookups.{CmpEqualImpliesEq, exact_bytes}
use Rattle.std.specs.Cmp.{IsTotalOrder, nat_cmp_total}
use Rattle.std.specs.Cmp.Lexicographic.{slice_cmp, lists_total, options_total}
use Rattle.std.specs.FinMap.{slice_cmp-IsAntisymmetric}
use Rattle.std.specs.Option.{option_cmp}
use Rattle.std.specs.Ordering.{nat_cmp}
use Rattle.alg_model.specs.Answers.{row_cmp}

pub row_cmp-total : IsTotalOrder row_cmp
row_cmp-total = lists_total (options_total (lists_total nat_cmp_total))

cells_exact : CmpEqualImpliesEq (option_cmp (slice_cmp nat_cmp))
cells_exact None None h = refl
cells_exact None (Some y) h = absurd (cc)
cells_exact (Some x) None h = absurd (cc)
cells_exact (Some x) (Some y) h = ap Some (exact_bytes x y h)

pub row_cmp-exact : CmpEqualImpliesEq row_cmp
row_cmp-exact = slice_cmp-IsAntisymmetric cells_exact
