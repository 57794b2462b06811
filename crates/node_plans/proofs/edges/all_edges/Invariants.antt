use Rattle.std.proofs.Common.{◌≡◌, ◌≤◌, ◌*◌, length, take}
use Rattle.node_plans.specs.Placed.{edges_of}
use Rattle.node_plans.proofs.edges.all_edges.Given as goal

abbrev pub invariant-loop-i : goal.invariant-loop-i
invariant-loop-i l = (l.pairs ≡ edges_of (take l.i l.patterns)) × (length l.pairs ≤ 3 * l.i)
