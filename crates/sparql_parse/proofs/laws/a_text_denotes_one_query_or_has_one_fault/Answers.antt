use Rattle.sparql_parse.proofs.DenotingLaws.{some-reading, one-query, one-fault, not-both}
use Rattle.sparql_parse.proofs.laws.a_text_denotes_one_query_or_has_one_fault.Goals as goal

pub returns-clause-some : goal.returns-clause-some
returns-clause-some c = some-reading

pub returns-clause-one_query : goal.returns-clause-one_query
returns-clause-one_query c = one-query

pub returns-clause-one_fault : goal.returns-clause-one_fault
returns-clause-one_fault c = one-fault

pub returns-clause-not_both : goal.returns-clause-not_both
returns-clause-not_both c = not-both
