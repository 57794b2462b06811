use Rattle.std.proofs.Common.{ℕ, ◌-◌, ◌*◌, ◌≤◌, length, Contains}
use Rattle.row_lanes.specs.Words.{Has}
use Rattle.pattern_rel.proofs.sets.first_in_row.Given as goal

abbrev pub invariant-loop-c : goal.invariant-loop-c
invariant-loop-c l = (l.at ≤ l.from) × ((m : ℕ) → Has l.words m → Contains l.row m → l.at ≤ m → l.from ≤ m)

abbrev pub decreases-loop-c : goal.decreases-loop-c
decreases-loop-c l = 64 * length l.words - l.from
