use Rattle.std.proofs.Common.{ℕ, ◌-◌, ◌^◌}
use Rattle.join_graph.specs.Members.{HasVariable}
use Rattle.join_graph.specs.Reach.{joined_to}
use Rattle.join_graph.proofs.chains.joined.Given as goal

abbrev pub invariant-loop-reached : goal.invariant-loop-reached
invariant-loop-reached l =
    ((v : ℕ) → HasVariable l.start v → HasVariable l.reached v)
    × ((v : ℕ) → HasVariable l.reached v → joined_to l.sets (HasVariable l.start) v)

abbrev pub decreases-loop-reached : goal.decreases-loop-reached
decreases-loop-reached l = 2 ^ 64 - l.reached
