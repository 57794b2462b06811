use Rattle.std.proofs.Common.{◌<◌, take, All, flat_map}
use Rattle.alg_model.specs.Pattern.{triple_vars}
use Rattle.well_designed.proofs.tests.are_below.Given as goal

abbrev pub invariant-loop-pattern : goal.invariant-loop-pattern
invariant-loop-pattern l = All (λ var. var < 64) (flat_map triple_vars (take l.pattern-index l.patterns))
