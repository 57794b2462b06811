use Rattle.std.proofs.Common.{◌≡◌, ◌+◌, ◌-◌, ◌*◌, ◌≤◌, length}
use Rattle.pattern_rel.specs.steps.Sets.{partner_numbers}
use Rattle.pattern_rel.specs.steps.Walks.{those_in, those_from}
use Rattle.pattern_rel.proofs.counts.count_in.Given as goal

abbrev pub invariant-loop-number : goal.invariant-loop-number
invariant-loop-number l = (l.total + length (those_from l.at l.words (partner_numbers l.partners)) ≡ length (those_in l.words (partner_numbers l.partners))) × (l.total ≤ l.at) × (l.at ≤ 64 * length l.words)

abbrev pub decreases-loop-number : goal.decreases-loop-number
decreases-loop-number l = 64 * length l.words - l.at
