use Rattle.sparql_parse.proofs.DenotingLaws.{reading-denotes, denotes-reading, reading-is_fault, fault-reading}
use Rattle.sparql_parse.proofs.laws.what_is_read_is_what_is_denoted.Goals as goal

pub returns-clause-query : goal.returns-clause-query
returns-clause-query c = λ text query. (reading-denotes text query, denotes-reading text query)

pub returns-clause-fault : goal.returns-clause-fault
returns-clause-fault c = λ text fault. (reading-is_fault text fault, fault-reading text fault)
