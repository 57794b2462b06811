use Rattle.std.proofs.Common.{◌≡◌, ℕ, ◌<◌, ◌↔◌, false, length, slice_index_or, IsTrue}
use Rattle.join_graph.proofs.left.Left.all.Given as goal

abbrev pub invariant-loop-place : goal.invariant-loop-place
invariant-loop-place l = (length l.patterns ≡ 256) × ((q : ℕ) → IsTrue (slice_index_or l.patterns q false) ↔ q < l.place)
