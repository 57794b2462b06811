use Rattle.sparql_parse.proofs.ReadingLaws.{kept-none}
use Rattle.sparql_parse.proofs.query.Reader.new.Goals as goal

pub returns-clause-kept : goal.returns-clause-kept
returns-clause-kept c = rw (c.new.ensures.items, c.start.ensures, c.new-2.ensures) kept-none
