use Rattle.std.proofs.Common.{◌∙◌, sym}
use Rattle.pattern_rel.proofs.NextLaws.{filter_true}
use Rattle.pattern_rel.proofs.cursor.pairs_from.Goals as goal

pub returns-in-None : goal.returns-in-None
returns-in-None c = rw c.in-None.is (c.all.ensures ∙ sym (filter_true _))
