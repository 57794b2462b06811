use Rattle.std.proofs.Common.{◌≡◌, All, length, map, sym, ◌∙◌, subst}
use Rattle.std.proofs.lemmas.Result.{IfOk-weaker}
use Rattle.std.specs.List.Sorted.{IsStrictlySortedBy}
use Rattle.pattern_tree.specs.BestRows.{AreBest}
use Rattle.pattern_tree.specs.FlatTable.{row_of}
use Rattle.null_best.specs.steps.Keys.{key_cmp}
use Rattle.null_best.proofs.Bests.{rows-injective}
use Rattle.null_best.proofs.best.best_of.Goals as goal

pub best_in_order-requires-clause-ascends : goal.best_in_order-requires-clause-ascends
best_in_order-requires-clause-ascends c =
    let same = rows-injective c.requires.ascends.keys c.in_ok-keys.keys.items (c.requires.ascends.are ∙ sym c.in_ok-keys.ensures.rows) in
    subst (IsStrictlySortedBy key_cmp) (same ∙ sym c.deref.ensures.value) c.requires.ascends.ascends

pub best_in_order-requires-clause-widths : goal.best_in_order-requires-clause-widths
best_in_order-requires-clause-widths c =
    subst (All (λ key. length key ≡ c.vars.result)) (sym c.deref.ensures.value) (λ k d lt. c.in_ok-keys.ensures.widths k d lt ∙ sym c.vars.ensures)

pub returns-clause-best : goal.returns-clause-best
returns-clause-best c =
    IfOk-weaker c.best_in_order.result (λ best. AreBest (map row_of c.deref.result.now) best.rows) (λ best. AreBest c.args.rows.now.rows best.rows)
    (λ best are. subst (λ rows. AreBest rows best.rows) c.in_ok-keys.ensures.rows (subst (λ keys. AreBest (map row_of keys) best.rows) c.deref.ensures.value are))
    c.best_in_order.ensures.best
