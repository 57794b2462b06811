use Rattle.std.proofs.Common.{◌-◌, ◌^◌, sym, arith}
use Rattle.run_rows.proofs.ByteLaws.{length-runs}
use Rattle.run_rows.proofs.SearchLaws.{IsHalved-whole, IsHalved-upper, find-none}
use Rattle.run_rows.proofs.runs.first_past.Goals as goal

pub loop-low-init : goal.loop-low-init
loop-low-init c =
    let whole = length-runs 0 (2 ^ 32 - 1) c.args.bytes.now c.requires in
    IsHalved-whole _ _ _ (omega arith)

pub run_at-requires : goal.run_at-requires
run_at-requires c =
    let whole = length-runs 0 (2 ^ 32 - 1) c.args.bytes.now c.requires in
    omega arith

pub loop-low-preserved-then-end-from : goal.loop-low-preserved-then-end-from
loop-low-preserved-then-end-from c =
    IsHalved-upper _ _ _ _ (2 ^ 32 - 1) c.run_at.result _ c.requires.runs (omega arith) c.run_at.ensures (omega arith) c.loop-low.invariant

pub run_at-requires-else-low-bytes : goal.run_at-requires-else-low-bytes
run_at-requires-else-low-bytes c =
    let whole = length-runs 0 (2 ^ 32 - 1) c.args.bytes.now c.requires in
    omega arith

pub returns-then-low-bytes : goal.returns-then-low-bytes
returns-then-low-bytes c =
    let whole = length-runs 0 (2 ^ 32 - 1) c.args.bytes.now c.requires in
    sym (find-none _ _ _ _ c.loop-low.invariant (omega arith))
