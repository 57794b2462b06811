use Rattle.std.proofs.Common.{◌≡◌, take}
use Rattle.alg_model.specs.Eval.{as_terms, bgp_rows}
use Rattle.alg_model.proofs.eval.basic_rows.Given as goal

abbrev pub invariant-loop-pattern : goal.invariant-loop-pattern
invariant-loop-pattern l = l.rows.items ≡ bgp_rows as_terms l.vars (take l.pattern-index l.patterns) l.triples
