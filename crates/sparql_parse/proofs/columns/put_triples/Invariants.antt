-- the variables of the patterns before are put
use Rattle.std.proofs.Common.{◌≡◌, map, take}
use Rattle.std.specs.List.{fold, flat_map}
use Rattle.alg_model.specs.Pattern.{triple_vars}
use Rattle.sparql_parse.specs.computed.Meaning.{with_number}
use Rattle.sparql_parse.proofs.columns.put_triples.Given as goal

abbrev pub invariant-loop-pattern : goal.invariant-loop-pattern
invariant-loop-pattern l = map (λ column. column.0) l.columns ≡ fold with_number (map (λ column. column.0) l.initial.columns) (flat_map triple_vars (take l.pattern-index l.patterns))
