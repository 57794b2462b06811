use Rattle.sparql_parse.proofs.DenotedLimits.{denoted-names, denoted-pattern}
use Rattle.sparql_parse.proofs.laws.a_query_that_is_denoted_keeps_the_limits.Goals as goal

pub returns-clause-names : goal.returns-clause-names
returns-clause-names c = denoted-names

pub returns-clause-pattern : goal.returns-clause-pattern
returns-clause-pattern c = denoted-pattern
