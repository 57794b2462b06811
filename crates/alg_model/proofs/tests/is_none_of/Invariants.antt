use Rattle.std.proofs.Common.{◌≢◌, take, All}
use Rattle.alg_model.proofs.tests.is_none_of.Given as goal

abbrev pub invariant-loop-other : goal.invariant-loop-other
invariant-loop-other l = All (λ other. other ≢ l.triple) (take l.other-index l.triples)
