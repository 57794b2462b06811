use Rattle.std.proofs.Common.{◌≡◌, take}
use Rattle.term_numbers.specs.held.Entries.{entries_from}
use Rattle.term_numbers.proofs.group.entries.Given as goal

abbrev pub invariant-loop-place : goal.invariant-loop-place
invariant-loop-place l = l.entries.items ≡ take l.place (entries_from 0 l.texts)
