-- the tokens before are taken
use Rattle.std.proofs.Common.{◌≡◌, map, take}
use Rattle.sparql_parse.specs.computed.Building.{built}
use Rattle.sparql_parse.specs.held.Builds.{IsSoundState, labelled_in, state_in}
use Rattle.sparql_parse.specs.held.Scopes.{scope_in}
use Rattle.sparql_parse.proofs.build.take_all.Given as goal

abbrev pub invariant-loop-read : goal.invariant-loop-read
invariant-loop-read l = record {
  is : state_in l.builder ≡ built (scope_in l.symbols) (state_in l.initial.builder) (take l.read-index (map labelled_in l.tokens));
  sound : IsSoundState (state_in l.builder);
}
