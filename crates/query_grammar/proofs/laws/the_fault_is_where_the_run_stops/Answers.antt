use Rattle.query_grammar.proofs.GrammarLaws.{HasFaultAt-StopsAt, StopsAt-HasFaultAt, query-or-fault, query-no_fault, one-fault}
use Rattle.query_grammar.proofs.laws.the_fault_is_where_the_run_stops.Goals as goal

pub returns-clause-exactly : goal.returns-clause-exactly
returns-clause-exactly c = λ tokens i. (HasFaultAt-StopsAt tokens i, StopsAt-HasFaultAt tokens i)

pub returns-clause-some : goal.returns-clause-some
returns-clause-some c = query-or-fault

pub returns-clause-none : goal.returns-clause-none
returns-clause-none c = query-no_fault

pub returns-clause-one : goal.returns-clause-one
returns-clause-one c = one-fault
