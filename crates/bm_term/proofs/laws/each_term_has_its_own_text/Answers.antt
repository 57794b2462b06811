use Rattle.bm_term.proofs.Inverse.{canonical_text-injective}
use Rattle.bm_term.proofs.laws.each_term_has_its_own_text.Goals as goal

pub returns : goal.returns
returns c = canonical_text-injective
