use Rattle.std.proofs.Common.{not, ap, ◌∙◌, sym}
use Rattle.std.specs.List.{position}
use Rattle.std.specs.Option.{is_none, is_some}
use Rattle.query_tokens.specs.Token.{shown}
use Rattle.query_values.specs.reading.Values.{name_of}
use Rattle.sparql_parse.specs.computed.Names.{is_text}
use Rattle.sparql_parse.specs.computed.Symbols.{is_new_name}
use Rattle.sparql_parse.proofs.NameLaws.{is_some-position, not_back}
use Rattle.sparql_parse.proofs.symbols.is_new.Goals as goal

pub returns-in-Variable : goal.returns-in-Variable
returns-in-Variable c =
    let names = c.args.names.now in
    let token = shown c.args.token in
    not_back (is_some c.position.result) c.is_none.result c.is_none.ensures ∙ ap is_none c.position.ensures
    ∙ ap (λ name. is_none (position (is_text name) names)) c.variable_name.ensures
    ∙ ap not (is_some-position (is_text (name_of token)) names)
    ∙ ap (λ t. is_new_name names t token) (sym c.in-Variable.is)
