use Rattle.std.proofs.Common.{sym}
use Rattle.query_tokens.specs.Token.{shown}
use Rattle.query_grammar.specs.Roles.{with_role}
use Rattle.sparql_parse.proofs.NameLaws.{no_fault-within}
use Rattle.sparql_parse.proofs.symbols.SymbolTable.take.Goals as goal

pub keep-requires-clause-within : goal.keep-requires-clause-within
keep-requires-clause-within c = no_fault-within c.args.self.now c.args.depth (with_role c.args.role (shown c.args.token)) (sym c.in-None.ensures)
