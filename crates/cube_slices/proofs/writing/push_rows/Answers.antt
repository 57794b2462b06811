use Rattle.std.proofs.Common.{◌∙◌}
use Rattle.cube_slices.proofs.WritingLaws.{IsFilling-start, IsFilling-next}
use Rattle.cube_slices.proofs.writing.push_rows.Goals as goal

pub loop-rest-init : goal.loop-rest-init
loop-rest-init c = IsFilling-start c.args.form _ c.args.pairs.now c.requires.pairs

pub loop-rest-preserved : goal.loop-rest-preserved
loop-rest-preserved c =
    let columns = c.deref.ensures.value ∙ c.in_ok-fill_columns.ensures in
    let line = rw (← columns) at c.split_row.ensures.line in
    IsFilling-next c.args.form _ _ _ _ _ _ _ _ line c.in_ok-append.ensures.written c.loop-rest.invariant
