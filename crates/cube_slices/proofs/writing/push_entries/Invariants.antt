use Rattle.std.proofs.Common.{length}
use Rattle.cube_slices.specs.Pairs.{lines_of}
use Rattle.cube_slices.specs.steps.Writing.{IsListing}
use Rattle.cube_slices.proofs.writing.push_entries.Given as goal

abbrev pub invariant-loop-rest : goal.invariant-loop-rest
invariant-loop-rest l = IsListing l.form (lines_of l.pairs) l.initial.out.items l.out.items l.end (lines_of l.rest)

abbrev pub decreases-loop-rest : goal.decreases-loop-rest
decreases-loop-rest l = length l.rest
