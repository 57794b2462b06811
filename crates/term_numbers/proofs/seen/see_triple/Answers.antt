use Rattle.term_numbers.proofs.SeenLaws.{SeesTriple-placed}
use Rattle.term_numbers.proofs.seen.see_triple.Goals as goal

pub returns-clause-seen : goal.returns-clause-seen
returns-clause-seen g c = SeesTriple-placed _ _ _ _ _ _ _ _ c.args.triple c.in_ok-subject.ensures.placed c.in_ok-object.ensures.placed c.in_ok-predicate.ensures.placed
