use Rattle.std.proofs.Common.{◌↔◌, drop}
use Rattle.index_file.specs.steps.Rows.{PairsStand}
use Rattle.index_file.proofs.agreement.pairs_stand.Given as goal

abbrev pub invariant-loop-n : goal.invariant-loop-n
invariant-loop-n l = PairsStand 0 l.others l.slices ↔ PairsStand l.n l.others (drop l.n l.slices)
