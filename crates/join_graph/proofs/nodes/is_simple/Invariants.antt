use Rattle.std.proofs.Common.{ℕ, ◌<◌, slice_index}
use Rattle.join_graph.specs.Nodes.{node_of, HangsFrom}
use Rattle.join_graph.proofs.nodes.is_simple.Given as goal

abbrev pub invariant-loop-k : goal.invariant-loop-k
invariant-loop-k l = (j : ℕ) → 0 < j → j < l.k → HangsFrom (node_of l.ends l.sets j) (node_of l.ends l.sets (slice_index l.parents j))
