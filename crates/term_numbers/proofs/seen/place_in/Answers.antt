use Rattle.term_numbers.proofs.SeenLaws.{IsPlaced-put}
use Rattle.term_numbers.proofs.seen.place_in.Goals as goal

pub returns-clause-placed : goal.returns-clause-placed
returns-clause-placed g c = IsPlaced-put c.args.terms.now.keys c.insert_full.new.self.keys c.args.term c.in_ok-place.place c.in_ok-place.ensures.keys c.in_ok-place.ensures.stored
