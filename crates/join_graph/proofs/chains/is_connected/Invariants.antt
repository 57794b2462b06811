use Rattle.std.proofs.Common.{◌≡◌, ℕ, ◌<◌, slice_index}
use Rattle.join_graph.proofs.chains.is_connected.Given as goal

abbrev pub invariant-loop-set : goal.invariant-loop-set
invariant-loop-set l = (p : ℕ) → p < l.set-index → slice_index l.sets p ≡ 0
