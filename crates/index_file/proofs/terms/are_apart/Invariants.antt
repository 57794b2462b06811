use Rattle.std.proofs.Common.{◌↔◌, ◌-◌, ◌+◌, length, drop}
use Rattle.index_file.specs.steps.Groups.{AreApart}
use Rattle.index_file.proofs.terms.are_apart.Given as goal

abbrev pub invariant-loop-i : goal.invariant-loop-i
invariant-loop-i l = AreApart l.one l.other ↔ AreApart (drop l.i l.one) (drop l.j l.other)

abbrev pub decreases-loop-i : goal.decreases-loop-i
decreases-loop-i l = (length l.one - l.i) + (length l.other - l.j)
