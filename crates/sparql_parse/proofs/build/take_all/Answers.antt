-- one token more
use Rattle.std.proofs.Common.{map, ◌∙◌, ap, arith}
use Rattle.sparql_parse.specs.computed.Building.{State, step}
use Rattle.sparql_parse.specs.held.Builds.{labelled_in, state_in}
use Rattle.sparql_parse.specs.held.Scopes.{scope_in}
use Rattle.sparql_parse.proofs.BuildLaws.{built-more}
use Rattle.sparql_parse.proofs.Counting.{next-bound}
use Rattle.sparql_parse.proofs.build.take_all.Goals as goal

pub take-requires : goal.take-requires
take-requires c =
    let scope = scope_in c.args.symbols.now in
    let s = state_in c.args.builder.now in
    let ls = map labelled_in c.args.tokens.now in
    let bound = next-bound scope s ls c.loop-read.read-index in
    let same = ap (λ (x : State). x.body.next) c.loop-read.invariant.is in
    record { sound = c.loop-read.invariant.sound; few = omega arith; spelled = c.requires.spelled c.loop-read.read-index _ c.loop-read-test.true }

pub loop-read-preserved : goal.loop-read-preserved
unfolding step
loop-read-preserved c =
    let scope = scope_in c.args.symbols.now in
    let s = state_in c.args.builder.now in
    let more = built-more scope s (state_in c.loop-read.builder) c.args.tokens.now c.loop-read.read-index _ c.loop-read-test.true c.loop-read.invariant.is in
    record { is = c.in_ok-take.ensures.state ∙ more; sound = c.in_ok-take.ensures.sound }
