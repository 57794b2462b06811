use Rattle.std.proofs.Common.{◌∙◌, arith}
use Rattle.cube_slices.proofs.WritingLaws.{short_rows, IsListing-start, IsListing-first, IsListing-next}
use Rattle.cube_slices.proofs.writing.push_entries.Goals as goal

pub loop-rest-init : goal.loop-rest-init
loop-rest-init c = IsListing-start c.args.form _ c.args.pairs.now c.requires.pairs

pub push_entry-requires-clause-fits : goal.push_entry-requires-clause-fits
push_entry-requires-clause-fits c =
    let columns = c.deref.ensures.value ∙ c.in_ok-fill_columns.ensures in
    let line = rw (← columns) at c.split_row-row.ensures.line in
    let first = IsListing-first c.args.form _ _ _ _ _ _ _ _ line c.loop-rest.invariant in
    omega (arith, first.within, short_rows c.args.form c.args.pairs.now c.requires.few)

pub loop-rest-preserved : goal.loop-rest-preserved
loop-rest-preserved c =
    let columns = c.deref.ensures.value ∙ c.in_ok-fill_columns.ensures in
    let line = rw (← columns) at c.split_row-row.ensures.line in
    IsListing-next c.args.form _ _ _ _ _ _ _ _ _ _ line c.in_ok-end.ensures.end c.in_ok-end.ensures.written c.loop-rest.invariant
