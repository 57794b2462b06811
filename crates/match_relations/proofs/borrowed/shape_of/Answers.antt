use Rattle.match_relations.proofs.PartLaws.{no_subject, no_predicate, no_object}
use Rattle.match_relations.proofs.borrowed.shape_of.Goals as goal

pub returns-in-None-clause-lists : goal.returns-in-None-clause-lists
returns-in-None-clause-lists c = no_subject c.args.index.now.numbering c.counts.ensures.of_a_graph c.args.pattern.now.subject _ _ c.in-None.ensures

pub returns-in-None-predicate_part-clause-lists : goal.returns-in-None-predicate_part-clause-lists
returns-in-None-predicate_part-clause-lists c = no_predicate c.args.index.now.numbering c.counts.ensures.of_a_graph c.args.pattern.now.predicate _ _ c.in-None-predicate_part.ensures

pub returns-in-None-object_part-clause-lists : goal.returns-in-None-object_part-clause-lists
returns-in-None-object_part-clause-lists c = no_object c.args.index.now.numbering c.counts.ensures.of_a_graph c.args.pattern.now.object _ _ c.in-None-object_part.ensures
