-- what is built is what the tree means
use Rattle.std.proofs.Common.{map, ◌∙◌, ap, sym, subst}
use Rattle.sparql_parse.specs.computed.Building.{State, IsBuilt, built}
use Rattle.sparql_parse.specs.held.Builds.{labelled_in, state_in}
use Rattle.sparql_parse.specs.held.Scopes.{scope_in}
use Rattle.sparql_parse.proofs.BuildLaws.{translated}
use Rattle.sparql_parse.proofs.Queries.{query-built}
use Rattle.sparql_parse.proofs.build.translate.Goals as goal

pub returns : goal.returns
returns c =
    let scope = scope_in c.args.symbols.now in
    let ls = map labelled_in c.args.tokens.now in
    let is = c.in_ok-take_all.ensures ∙ ap (λ (s : State). built scope s ls) c.new-builder.ensures.state in
    λ tree query.
    translated scope tree (state_in c.take_all.new.builder) c.finish.result (subst (IsBuilt scope tree) (sym is) (query-built scope tree ls query))
    c.finish.ensures.pattern c.finish.ensures.columns c.finish.ensures.distinct
