use Rattle.std.proofs.Common.{◌<◌, length, None, slice_index_or}
use Rattle.std.proofs.lemmas.List.{get_or_read}
use Rattle.answer_rows.proofs.Lists.{map-take_next, All-got}
use Rattle.alg_model.specs.declared.var.Var.{Var}
use Rattle.answer_rows.proofs.project.project_row.Goals as goal

pub loop-i-preserved : goal.loop-i-preserved
loop-i-preserved c =
    let row = c.args.row.now in
    let within = All-got (λ (column : Var). column.0 < length row) c.args.columns.now c.loop-i.i c.get.result c.requires c.get.ensures in
    let here = get_or_read row c.get.result.0 c.index-row-get.result within c.index-row-get.is None in
    let next = map-take_next (λ column. slice_index_or row column.0 None) c.args.columns.now c.loop-i.i c.get.result c.get.ensures in
    cc (next, here, c.in_ok-push.ensures.items, c.copy.ensures, c.loop-i.invariant)
