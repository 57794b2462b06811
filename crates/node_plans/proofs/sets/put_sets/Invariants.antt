use Rattle.std.proofs.Common.{◌≡◌, length, take}
use Rattle.node_plans.proofs.PlacedSets.{AreSetsAmong}
use Rattle.node_plans.proofs.sets.put_sets.Given as goal

abbrev pub invariant-loop-i : goal.invariant-loop-i
invariant-loop-i l = (length l.sets ≡ 256) × AreSetsAmong (take l.i l.patterns) l.sets
