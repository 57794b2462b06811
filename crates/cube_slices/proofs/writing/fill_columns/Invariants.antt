use Rattle.std.proofs.Common.{◌≡◌, take}
use Rattle.cube_slices.specs.steps.Writing.{columns_of}
use Rattle.cube_slices.proofs.writing.fill_columns.Given as goal

abbrev pub invariant-loop-pair : goal.invariant-loop-pair
invariant-loop-pair l = l.columns.items ≡ columns_of (take l.pair-index l.pairs)
