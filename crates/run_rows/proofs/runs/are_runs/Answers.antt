use Rattle.std.proofs.Common.{arith}
use Rattle.run_rows.proofs.ByteLaws.{BeginsWithRun-from_runs, SpellsRuns-from_first, SpellsRuns-short}
use Rattle.run_rows.proofs.runs.are_runs.Goals as goal

pub loop-run-preserved : goal.loop-run-preserved
loop-run-preserved c =
    let run = c.in-Some.run' in
    let split = BeginsWithRun-from_runs c.loop-run.low c.args.columns run c.loop-run.rest.now c.in-Some.after.now c.in-Some.ensures.spelled c.in-Some.ensures.first in
    let join = SpellsRuns-from_first c.loop-run.low c.args.columns run c.loop-run.rest.now c.in-Some.after.now c.in-Some.ensures.spelled c.in-Some.ensures.first in
    rw c.end-end.ensures (λ whole. (split (c.loop-run.invariant.0 whole)).behind, λ behind. c.loop-run.invariant.1 (join (record { at_low = omega arith; some = omega arith; within = omega arith; behind = behind })))

pub returns : goal.returns
returns c =
    let short = SpellsRuns-short c.loop-run.low c.args.columns c.loop-run.rest.now c.in_default.ensures.short in
    rw c.is_empty.ensures (λ empty. c.loop-run.invariant.1 (short.0 empty), λ whole. short.1 (c.loop-run.invariant.0 whole))
