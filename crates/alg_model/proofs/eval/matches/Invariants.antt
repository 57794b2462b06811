use Rattle.std.proofs.Common.{◌≡◌, take}
use Rattle.alg_model.specs.Eval.{as_terms, matches_of}
use Rattle.alg_model.proofs.eval.matches.Given as goal

abbrev pub invariant-loop-triple : goal.invariant-loop-triple
invariant-loop-triple l = l.rows.items ≡ matches_of as_terms l.vars l.pattern (take l.triple-index l.triples)
