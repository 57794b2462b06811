use Rattle.std.proofs.Common.{◌↔◌, length}
use Rattle.byte_tables.specs.Pairs.{pairs_in}
use Rattle.cube_slices.specs.Slices.{AreEntries}
use Rattle.cube_slices.proofs.check.are_entries.Given as goal

abbrev pub invariant-loop-entry : goal.invariant-loop-entry
invariant-loop-entry l =
    AreEntries l.form l.rows l.columns 0 0 (pairs_in l.fn.entries) l.fn.bytes ↔ AreEntries l.form l.rows l.columns l.low l.from (pairs_in l.entries) l.bytes

abbrev pub decreases-loop-entry : goal.decreases-loop-entry
decreases-loop-entry l = length (pairs_in l.entries)
