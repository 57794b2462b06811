use Rattle.bm_term.proofs.PartsLaws.{IsCanonical-had}
use Rattle.bm_term.proofs.term_ref.TermRef.bytes.Goals as goal

pub returns-clause-canonical : goal.returns-clause-canonical
returns-clause-canonical c = IsCanonical-had c.args.self.text.now c.args.self.canonical
