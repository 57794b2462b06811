use Rattle.std.proofs.Common.{ℕ, ◌==◌, Bool, List, ◌∙◌}
use Rattle.std.proofs.lemmas.List.Filters.{dedup_is}
use Rattle.std.specs.Cmp.Lexicographic.{pointwise}
use Rattle.std.specs.Option.{option_eq}
use Rattle.alg_model.specs.Row.{Row}
use Rattle.alg_model.specs.Answers.{row_cmp}
use Rattle.alg_model.proofs.InOrder.{in_order-is, set_of-dedup}
use Rattle.alg_model.proofs.RowOrder.{row_cmp-total, row_cmp-exact}
use Rattle.answer_rows.specs.held.CellOrder.{rows_tie}
use Rattle.answer_rows.proofs.row_key.arrange.Goals as goal

-- two rows are the same
abbrev same_rows : Row (List ℕ) → Row (List ℕ) → Bool
same_rows = pointwise (option_eq (pointwise ◌==◌))

pub returns-then-distinct : goal.returns-then-distinct
returns-then-distinct c =
    let rows = c.args.keys.now.items in
    let sorted = c.sort_unstable.new.self.items in
    rw c.if-distinct.true (dedup_is same_rows sorted c.dedup.new.self.items c.dedup.ensures.filtered ∙ set_of-dedup row_cmp row_cmp-total row_cmp-exact same_rows rows_tie rows sorted c.sort_unstable.ensures.permutation c.sort_unstable.ensures.sorted)

pub returns-else-distinct : goal.returns-else-distinct
returns-else-distinct c =
    rw c.if-distinct.false (in_order-is row_cmp row_cmp-total row_cmp-exact c.args.keys.now.items c.sort_unstable.new.self.items c.sort_unstable.ensures.permutation c.sort_unstable.ensures.sorted)
