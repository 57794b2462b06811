use Rattle.bm_term.proofs.Inverse.{term_of-parts}
use Rattle.bm_term.proofs.laws.parts_are_the_term.Goals as goal

pub returns : goal.returns
returns c = term_of-parts
