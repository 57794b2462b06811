use Rattle.std.proofs.Common.{◌∙◌, ap, ℕ, List, string_bytes}
use Rattle.result_write.specs.held.NamedColumns.{named}
use Rattle.result_write.proofs.ColumnLaws.{columns_pushed}
use Rattle.result_write.proofs.column.columns_of.Goals as goal

pub loop-place-preserved : goal.loop-place-preserved
loop-place-preserved c =
    columns_pushed named string_bytes c.loop-place.columns.items c.push.new.self.items c.args.names.now c.loop-place.place
    c.in_ok-column_at.field-0 c.index-names-place.result c.loop-place-test.true c.index-names-place.is c.in_ok-push.ensures.items
    (c.in_ok-column_at.ensures ∙ ap (λ (name : List ℕ). (name, c.loop-place.place)) c.as_str.ensures.value) c.loop-place.invariant
