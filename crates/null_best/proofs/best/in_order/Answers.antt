use Rattle.std.proofs.Common.{◌≡◌, ◌↔◌, All, Contains, length, map, sym, ◌∙◌, subst}
use Rattle.std.proofs.lemmas.Result.{IfOk-weaker}
use Rattle.std.specs.List.Sorted.{IsStrictlySortedBy}
use Rattle.bm_term.specs.SetOf.{set_of}
use Rattle.pattern_tree.specs.FlatTable.{row_of}
use Rattle.null_best.specs.steps.Keys.{key_cmp}
use Rattle.null_best.specs.steps.Sorted.{AreAscending, HaveSameRows}
use Rattle.null_best.proofs.Bests.{All-sorted, ascends-sorted, same-sorted}
use Rattle.null_best.proofs.best.in_order.Goals as goal

pub rows_of-requires : goal.rows_of-requires
rows_of-requires c =
    subst (All (λ key. length key ≡ c.vars.result)) (sym (c.deref.ensures.value ∙ c.arrange.ensures))
    (All-sorted (λ key. length key ≡ c.vars.result) c.in_ok-keys.keys.items (λ k d lt. c.in_ok-keys.ensures.widths k d lt ∙ sym c.vars.ensures))

pub returns-clause-ascends : goal.returns-clause-ascends
returns-clause-ascends c =
    IfOk-weaker c.rows_of.result (λ sorted. sorted.rows ≡ map row_of c.deref.result.now) (λ sorted. AreAscending sorted.rows)
    (λ sorted is. record {
      keys = c.deref.result.now;
      are = sym is;
      ascends = subst (IsStrictlySortedBy key_cmp) (sym (c.deref.ensures.value ∙ c.arrange.ensures)) (ascends-sorted c.in_ok-keys.keys.items);
    })
    c.rows_of.ensures.rows

pub returns-clause-same : goal.returns-clause-same
returns-clause-same c =
    let keys = c.in_ok-keys.keys.items in
    IfOk-weaker c.rows_of.result (λ sorted. sorted.rows ≡ map row_of c.deref.result.now) (λ sorted. HaveSameRows sorted.rows c.args.rows.now.rows)
    (λ sorted is. record {
      same = λ row.
          subst (λ rows. Contains rows row ↔ Contains c.args.rows.now.rows row) (sym is)
          (subst (λ xs. Contains (map row_of xs) row ↔ Contains c.args.rows.now.rows row) (sym (c.deref.ensures.value ∙ c.arrange.ensures))
          (subst (λ rows. Contains (map row_of (set_of key_cmp keys)) row ↔ Contains rows row) c.in_ok-keys.ensures.rows (same-sorted keys row)));
    })
    c.rows_of.ensures.rows
