use Rattle.std.proofs.Common.{◌↔◌, length}
use Rattle.byte_tables.specs.Numbers.{numbers_in}
use Rattle.byte_tables.specs.Pieces.{AscendTo}
use Rattle.byte_tables.proofs.pieces.ascend_to.Given as goal

abbrev pub invariant-loop-end : goal.invariant-loop-end
invariant-loop-end l =
    AscendTo l.last l.from (numbers_in l.ends) ↔ AscendTo l.last l.at (numbers_in l.rest)

abbrev pub decreases-loop-end : goal.decreases-loop-end
decreases-loop-end l = length (numbers_in l.rest)
