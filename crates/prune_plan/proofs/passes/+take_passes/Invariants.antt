use Rattle.std.proofs.Common.{◌-◌, length}
use Rattle.prune_plan.proofs.passes.+take_passes.Given as goal

abbrev pub decreases-take_passes : goal.decreases-take_passes
decreases-take_passes l = length l.pairs.now - l.i
