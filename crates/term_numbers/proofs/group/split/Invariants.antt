use Rattle.std.proofs.Common.{take}
use Rattle.term_numbers.specs.held.Entries.{entries_from, AreSplit}
use Rattle.term_numbers.proofs.group.split.Given as goal

abbrev pub invariant-loop-place : goal.invariant-loop-place
invariant-loop-place l = AreSplit l.roles (take l.place (entries_from 0 l.nodes)) l.groups.shared.items l.groups.subjects.items l.groups.objects.items
