use Rattle.std.proofs.Common.{ℕ, ◌<◌}
use Rattle.join_graph.specs.Sets.{Meets}
use Rattle.join_graph.specs.Members.{HasVariable, PatternHas}
use Rattle.join_graph.proofs.chains.all_meet.Given as goal

abbrev pub invariant-loop-set : goal.invariant-loop-set
invariant-loop-set l = (p v : ℕ) → p < l.set-index → PatternHas l.sets p v → Meets (PatternHas l.sets p) (HasVariable l.reached)
