-- a tag and a datatype, in their roles
use Rattle.std.proofs.Common.{sym, ◌∙◌, ap}
use Rattle.query_tokens.specs.Token.{shown}
use Rattle.query_grammar.specs.Terminals.{terminal_of}
use Rattle.query_grammar.specs.declared.syntax.Role.{Role}
use Rattle.sparql_parse.specs.computed.Building.{in_role}
use Rattle.sparql_parse.specs.held.Builds.{state_in}
use Rattle.sparql_parse.specs.held.Scopes.{scope_in}
use Rattle.sparql_parse.proofs.build.Builder.take.Goals as goal

pub returns-in-Tag : goal.returns-in-Tag
returns-in-Tag c =
    let scope = scope_in c.args.symbols.now in
    let token = shown c.args.token in
    record {
      state = c.tag.ensures.state scope ∙ ap (λ (role : Role). in_role scope (state_in c.args.self.now) role (terminal_of token) token) (sym c.in-Tag.is);
      sound = c.tag.ensures.sound;
    }

pub returns-in-Datatype : goal.returns-in-Datatype
returns-in-Datatype c =
    let scope = scope_in c.args.symbols.now in
    let token = shown c.args.token in
    record {
      state = c.datatype.ensures.state scope ∙ ap (λ (role : Role). in_role scope (state_in c.args.self.now) role (terminal_of token) token) (sym c.in-Datatype.is);
      sound = c.datatype.ensures.sound;
    }
