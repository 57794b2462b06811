use Rattle.std.proofs.Common.{◌≡◌, ◌+◌, [], None, Some, map, drop, string_bytes, slice_index_or, sym, ◌∙◌, subst}
use Rattle.std.proofs.lemmas.List.{drop_all}
use Rattle.std.proofs.lemmas.Result.{on_ok_weaker}
use Rattle.serde.specs.Event.{Logs, map_begins}
use Rattle.serde_json.specs.Events.{SendsMembers}
use Rattle.result_write.specs.held.NamedColumns.{named}
use Rattle.result_write.specs.held.RowData.{bound_data, row_data}
use Rattle.result_write.proofs.ColumnLaws.{drop-item}
use Rattle.result_write.proofs.RowLaws.{sends_more, count-bound}
use Rattle.result_write.proofs.json_row.send_row.Goals as goal

pub loop-column-preserved : goal.loop-column-preserved
loop-column-preserved g c = λ end rest.
    let row = c.args.cells.now in
    let columns = c.args.columns.now in
    let i = c.loop-column.column-index in
    let column = c.column-item.result in
    let here = drop-item columns i column c.loop-column-test.true c.column-item.is in
    c.loop-column.invariant end (subst (λ left. SendsMembers (bound_data row (map named left)) (g.S.Serializer.written c.loop-column.out) end) (sym here)
    (sends_more (string_bytes column.name) (slice_index_or row column.place None) (bound_data row (map named (drop (i + 1) columns))) (g.S.Serializer.written c.loop-column.out) (g.S.Serializer.written c.send_column.new.out) end c.in_ok-send_column.ensures rest))

pub returns : goal.returns
unfolding row_data
returns g c =
    let row = c.args.cells.now in
    let columns = c.args.columns.now in
    let first = g.S.Serializer.written c.begin_map.new.self in
    let last = g.S.Serializer.written c.end_map.new.self in
    let begun = subst (λ n. Logs (g.S.Serializer.written c.args.out.now) first (map_begins (Some n))) (c.count_bound.ensures ∙ count-bound named row columns) c.in_ok-begin_map.ensures in
    let none : drop c.loop-column.column-index columns ≡ [] = drop_all c.loop-column.column-index columns c.loop-column-test.false in
    on_ok_weaker c.end_map.result (λ ended. (
      first,
      begun,
      c.loop-column.invariant last (subst (λ left. SendsMembers (bound_data row (map named left)) (g.S.Serializer.written c.loop-column.out) last) (sym none) ended),
    )) c.end_map.ensures
