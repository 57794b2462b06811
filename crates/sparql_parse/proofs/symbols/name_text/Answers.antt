use Rattle.std.proofs.Common.{◌≡◌, List, ℕ, sym, subst}
use Rattle.std.specs.Str.{IsUtf8}
use Rattle.query_tokens.specs.Token.{shown}
use Rattle.sparql_parse.proofs.NameTexts.{variable-text}
use Rattle.sparql_parse.proofs.symbols.name_text.Goals as goal

pub unreachable-requires : goal.unreachable-requires
unreachable-requires c =
    let text = variable-text (shown c.args.token) c.requires.spelled c.requires.variable in
    c.in-Err.ensures.cases.0 (subst IsUtf8 (sym c.variable_name.ensures) text)
