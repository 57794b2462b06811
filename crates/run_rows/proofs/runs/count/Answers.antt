use Rattle.std.proofs.Common.{◌-◌, ◌^◌, ap, length, arith}
use Rattle.run_rows.specs.Runs.{members}
use Rattle.run_rows.specs.Encoding.{runs_in}
use Rattle.run_rows.proofs.RunLaws.{length-members-cons, length-members-le}
use Rattle.run_rows.proofs.runs.count.Goals as goal

pub overflow_add-total : goal.overflow_add-total
overflow_add-total c =
    let first = ap (λ rs. length (members rs)) c.in-Some.ensures.first in
    omega (arith, c.loop-run.invariant, first, length-members-cons c.in-Some.run' (runs_in c.in-Some.after.now), length-members-le 0 (2 ^ 32 - 1) (runs_in c.args.bytes.now) c.requires.runs)

pub loop-run-preserved : goal.loop-run-preserved
loop-run-preserved c =
    let first = ap (λ rs. length (members rs)) c.in-Some.ensures.first in
    omega (arith, c.loop-run.invariant, first, length-members-cons c.in-Some.run' (runs_in c.in-Some.after.now))

pub returns : goal.returns
returns c =
    let none = ap (λ rs. length (members rs)) c.in_default.ensures.none in
    omega (arith, c.loop-run.invariant, none)
