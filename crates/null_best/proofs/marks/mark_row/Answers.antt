use Rattle.std.proofs.Common.{arith}
use Rattle.null_best.specs.steps.Searches.{Matches}
use Rattle.null_best.proofs.Marking.{adds-one}
use Rattle.null_best.proofs.Orders.{match-place}
use Rattle.null_best.proofs.marks.mark_row.Goals as goal

pub returns-in-Ok-clause-marks : goal.returns-in-Ok-clause-marks
returns-in-Ok-clause-marks c =
    let found = c.in-Ok.ensures in
    adds-one (Matches c.args.keys.now c.args.small.now c.args.key.now) c.args.marks.now c.in-Ok.place
    (omega (arith, found.place.below, c.requires.small.binds.within, c.requires.len)) found
    (λ k match. match-place c.args.keys.now c.args.small.now c.requires.ascends c.requires.small c.args.key.now c.in-Ok.place k found match)
