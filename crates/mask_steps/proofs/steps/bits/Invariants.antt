use Rattle.std.proofs.Common.{◌≡◌, ◌≤◌, ◌*◌, ◌^◌, take, sum_by}
use Rattle.mask_steps.specs.Measure.{relation_bits}
use Rattle.mask_steps.proofs.steps.bits.Given as goal

abbrev pub invariant-loop-i : goal.invariant-loop-i
invariant-loop-i l = (l.total ≡ sum_by (λ e. relation_bits l.prepared.pool e.rel) (take l.i l.prepared.entries)) × (l.total ≤ l.i * 2 ^ 33)
