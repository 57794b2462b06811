use Rattle.query_grammar.proofs.GrammarLaws.{Begins-IsSome, next_none-not_begun, front-run}
use Rattle.query_grammar.proofs.laws.beginnings_are_read.Goals as goal

pub returns-clause-exactly : goal.returns-clause-exactly
returns-clause-exactly c = Begins-IsSome

pub returns-clause-refused : goal.returns-clause-refused
returns-clause-refused c = next_none-not_begun

pub returns-clause-roles : goal.returns-clause-roles
returns-clause-roles c = front-run
