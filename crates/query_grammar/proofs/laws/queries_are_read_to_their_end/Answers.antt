use Rattle.query_grammar.proofs.GrammarLaws.{query-IsReadToEnd, IsReadToEnd-query}
use Rattle.query_grammar.proofs.laws.queries_are_read_to_their_end.Goals as goal

pub returns-clause-read : goal.returns-clause-read
returns-clause-read c = query-IsReadToEnd

pub returns-clause-spelled : goal.returns-clause-spelled
returns-clause-spelled c = IsReadToEnd-query
