use Rattle.match_relations.proofs.FitsLaws.{first_usable, second_usable, few_left}
use Rattle.engine_tests.proofs.counts.counts_of.Goals as goal

pub count-requires-clause-first : goal.count-requires-clause-first
count-requires-clause-first c = rw c.pool.ensures (first_usable c.args.prepared.now c.requires c.loop-i.i c.get-entry.result.now c.get-entry.ensures)

pub count-requires-clause-second : goal.count-requires-clause-second
count-requires-clause-second c = rw c.pool.ensures (second_usable c.args.prepared.now c.requires c.loop-i.i c.get-entry.result.now c.get-entry.ensures)

pub count-requires-clause-few : goal.count-requires-clause-few
count-requires-clause-few c = rw c.pool.ensures (few_left c.args.prepared.now c.requires c.loop-i.i c.get-entry.result.now c.get-entry.ensures)
