use Rattle.std.proofs.Common.{sym, ◌∙◌}
use Rattle.query_tokens.specs.Token.{shown}
use Rattle.sparql_parse.proofs.NameLaws.{new-variable}
use Rattle.sparql_parse.proofs.TokenTerminals.{terminal_of-variable}
use Rattle.sparql_parse.proofs.symbols.add_name.Goals as goal

pub name_text-requires-clause-variable : goal.name_text-requires-clause-variable
name_text-requires-clause-variable c =
    let new = new-variable c.args.names.now c.args.terminal (shown c.args.token) (sym c.is_new.ensures ∙ c.if-is_new.true) in
    terminal_of-variable (shown c.args.token) (sym c.requires.terminal ∙ new)
