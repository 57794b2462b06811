use Rattle.std.proofs.Common.{◌<◌, ◌≤◌}
use Rattle.join_graph.specs.Sets.{HasSize}
use Rattle.join_graph.specs.Left.{IsKept}
use Rattle.join_graph.proofs.Counts.{HasInSet}
use Rattle.join_graph.proofs.left.Left.patterns_with.Given as goal

abbrev pub invariant-loop-place : goal.invariant-loop-place
invariant-loop-place l = (l.count ≤ l.place) × HasSize (λ p. (p < l.place) × HasInSet l.sets (IsKept l.self) l.variable p) l.count
