use Rattle.std.proofs.Common.{◌≡◌, ◌≤◌, ◌<◌, ℕ, slice_index}
use Rattle.row_lanes.proofs.words.zero_from.Given as goal

abbrev pub invariant-loop-i : goal.invariant-loop-i
invariant-loop-i l = ((k : ℕ) → k < l.from → slice_index l.into k ≡ slice_index l.initial.into k) × ((k : ℕ) → l.from ≤ k → k < l.i → slice_index l.into k ≡ 0)
