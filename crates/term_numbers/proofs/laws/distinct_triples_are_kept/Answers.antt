use Rattle.term_numbers.proofs.SightLaws.{marked_where_more, kept_unmarked, graph_of-first_sights, length-first_sights}
use Rattle.term_numbers.proofs.laws.distinct_triples_are_kept.Goals as goal

pub returns-clause-marked : goal.returns-clause-marked
returns-clause-marked c = marked_where_more

pub returns-clause-kept : goal.returns-clause-kept
returns-clause-kept c = kept_unmarked

pub returns-clause-same : goal.returns-clause-same
returns-clause-same c = graph_of-first_sights

pub returns-clause-as_many : goal.returns-clause-as_many
returns-clause-as_many c = length-first_sights
