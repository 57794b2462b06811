use Rattle.std.proofs.Common.{◌≡◌, true, false, length, [], ◌∷◌, sym, ap, ◌∙◌, arith, length-append}
use Rattle.query_tokens.specs.Token.{shown}
use Rattle.query_values.specs.reading.Values.{name_of}
use Rattle.sparql_parse.specs.computed.Symbols.{Symbols, is_new_name}
use Rattle.sparql_parse.specs.computed.Names.{names_after}
use Rattle.sparql_parse.proofs.NameLaws.{names-new, names-old}
use Rattle.sparql_parse.proofs.symbols.SymbolTable.names_after.Goals as goal

pub returns-then-is_new : goal.returns-then-is_new
returns-then-is_new c =
    let token = shown c.args.token in
    let names = c.self.inside.names in
    let new : is_new_name names c.args.terminal token ≡ true = sym c.is_new.ensures ∙ c.if-is_new.true in
    let is = ap length (names-new names c.args.terminal token new) in
    let one = length-append names (name_of token ∷ []) in
    let long = c.len.ensures in
    omega arith ∙ ap (λ (k : Symbols). length (names_after k.names c.args.terminal token)) c.self.view_is

pub returns-else-is_new : goal.returns-else-is_new
returns-else-is_new c =
    let token = shown c.args.token in
    let names = c.self.inside.names in
    let old : is_new_name names c.args.terminal token ≡ false = sym c.is_new.ensures ∙ c.if-is_new.false in
    c.len-else-is_new.ensures ∙ sym (ap length (names-old names c.args.terminal token old))
    ∙ ap (λ (k : Symbols). length (names_after k.names c.args.terminal token)) c.self.view_is
