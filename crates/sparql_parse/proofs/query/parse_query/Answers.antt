use Rattle.std.proofs.Common.{inr, sym, ap, Err, ◌∙◌}
use Rattle.sparql_parse.specs.declared.fault.QueryFault.TheVariants as faults
use Rattle.sparql_parse.proofs.QueryReading.{good-reading, bad-reading}
use Rattle.sparql_parse.proofs.DenotingLaws.{read-query, read-fault, read-only_query, read-only_fault}
use Rattle.sparql_parse.proofs.query.parse_query.Goals as goal

pub returns-in-Ok-clause-reads : goal.returns-in-Ok-clause-reads
returns-in-Ok-clause-reads c = rw (good-reading c.args.text.now c.in-Ok.ensures.cases.1) (rw c.in-Ok.ensures.cases.0 at c.parse_text.ensures.reads)

pub returns-in-Err-clause-reads : goal.returns-in-Err-clause-reads
returns-in-Err-clause-reads c =
    inr (bad-reading c.args.text.now c.in-Err.ensures.cases.0 ∙ ap (λ n. Err (faults.Syntax n)) (sym (c.valid_up_to.ensures ∙ c.in-Err.ensures.valid_len)))

pub returns-in-Ok-clause-denotes : goal.returns-in-Ok-clause-denotes
returns-in-Ok-clause-denotes c = read-query c.args.text.now _ (returns-in-Ok-clause-reads c)

pub returns-in-Ok-clause-fault : goal.returns-in-Ok-clause-fault
returns-in-Ok-clause-fault c = read-fault c.args.text.now _ (returns-in-Ok-clause-reads c)

pub returns-in-Ok-clause-only_query : goal.returns-in-Ok-clause-only_query
returns-in-Ok-clause-only_query c = read-only_query c.args.text.now _ (returns-in-Ok-clause-reads c)

pub returns-in-Ok-clause-only_fault : goal.returns-in-Ok-clause-only_fault
returns-in-Ok-clause-only_fault c = read-only_fault c.args.text.now _ (returns-in-Ok-clause-reads c)

pub returns-in-Err-clause-denotes : goal.returns-in-Err-clause-denotes
returns-in-Err-clause-denotes c = read-query c.args.text.now (Err (faults.Syntax c.valid_up_to.result)) (returns-in-Err-clause-reads c)

pub returns-in-Err-clause-fault : goal.returns-in-Err-clause-fault
returns-in-Err-clause-fault c = read-fault c.args.text.now (Err (faults.Syntax c.valid_up_to.result)) (returns-in-Err-clause-reads c)

pub returns-in-Err-clause-only_query : goal.returns-in-Err-clause-only_query
returns-in-Err-clause-only_query c = read-only_query c.args.text.now (Err (faults.Syntax c.valid_up_to.result)) (returns-in-Err-clause-reads c)

pub returns-in-Err-clause-only_fault : goal.returns-in-Err-clause-only_fault
returns-in-Err-clause-only_fault c = read-only_fault c.args.text.now (Err (faults.Syntax c.valid_up_to.result)) (returns-in-Err-clause-reads c)
