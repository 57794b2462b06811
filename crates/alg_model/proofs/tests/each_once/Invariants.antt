use Rattle.std.proofs.Common.{◌≢◌, take, AllPairs}
use Rattle.alg_model.proofs.tests.each_once.Given as goal

abbrev pub invariant-loop-i : goal.invariant-loop-i
invariant-loop-i l = AllPairs (λ t u. t ≢ u) (take l.i l.triples)
