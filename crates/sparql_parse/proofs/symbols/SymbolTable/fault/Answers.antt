use Rattle.std.proofs.Common.{sym, ap, ◌∙◌, length}
use Rattle.query_tokens.specs.Token.{shown}
use Rattle.query_grammar.specs.Roles.{with_role}
use Rattle.query_grammar.specs.Terminals.{terminal_of}
use Rattle.sparql_parse.specs.computed.Names.{names_after}
use Rattle.sparql_parse.specs.computed.Faults.{limit_among}
use Rattle.sparql_parse.specs.computed.Symbols.{Symbols, counts_with, tally_after}
use Rattle.sparql_parse.proofs.NameLaws.{fault-unknown, fault-limit}
use Rattle.sparql_parse.proofs.symbols.SymbolTable.fault.Goals as goal

pub returns-then-is_unknown : goal.returns-then-is_unknown
returns-then-is_unknown c = sym (fault-unknown c.args.self.now c.args.depth (with_role c.args.role (shown c.args.token)) (sym c.if-is_unknown.ensures))

pub returns : goal.returns
returns c =
    c.fault.ensures
    ∙ ap (λ n. limit_among c.args.token.at (counts_with n c.after-tally.result c.args.depth)) c.names_after.ensures
    ∙ ap (λ t. limit_among c.args.token.at (counts_with (length (names_after c.args.self.now.names t (shown c.args.token))) c.after-tally.result c.args.depth)) c.requires.terminal
    ∙ ap (λ t. limit_among c.args.token.at (counts_with (length (names_after c.args.self.now.names (terminal_of (shown c.args.token)) (shown c.args.token))) t c.args.depth))
    (c.after-tally.ensures ∙ ap (λ (k : Symbols). tally_after k.tally c.args.role) c.self.view_is)
    ∙ sym (fault-limit c.args.self.now c.args.depth (with_role c.args.role (shown c.args.token)) (sym c.if-is_unknown.ensures))
