use Rattle.std.proofs.Common.{◌≡◌, ◌++◌, drop}
use Rattle.null_best.specs.steps.Cuts.{cut_to}
use Rattle.null_best.proofs.cut.push_cut.Given as goal

abbrev pub invariant-loop-cell : goal.invariant-loop-cell
invariant-loop-cell l = l.into.items ++ cut_to l.left (drop l.cell-index l.cells) ≡ cut_to l.fn.vars l.cells
