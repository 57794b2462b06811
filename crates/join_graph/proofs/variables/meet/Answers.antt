use Rattle.std.proofs.Common.{arith}
use Rattle.std.proofs.lemmas.Bool.{not-true, not_from_false, eqb-false, ne_eqb}
use Rattle.join_graph.proofs.Bits.{Meets-and}
use Rattle.join_graph.proofs.variables.meet.Goals as goal

pub returns : goal.returns
returns c =
    let meets = Meets-and c.args.first c.args.second (omega arith) in (
      λ h. meets.0 (eqb-false _ _ (not-true _ h)),
      λ h. not_from_false _ (ne_eqb _ _ (meets.1 h)),
    )
