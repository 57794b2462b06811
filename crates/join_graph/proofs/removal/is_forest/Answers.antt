use Rattle.std.proofs.Common.{eqb-true, eq-eqb, arith, inl, inr}
use Rattle.std.proofs.lemmas.Bool.{cases_lt}
use Rattle.join_graph.specs.Core.{core_of, IsForest}
use Rattle.join_graph.proofs.Sizes.{HasSize-empty, HasSize-some}
use Rattle.join_graph.proofs.removal.is_forest.Goals as goal

pub returns : goal.returns
unfolding IsForest
returns c =
    let size = c.strip.ensures.core in
    let core = c.core.ensures in (
      λ h. HasSize-empty (core_of c.args.sets.now) (rw (← core, eqb-true _ _ h) at size),
      λ forest. elim (cases_lt 0 c.strip.result.core) [
        | inl some ↦ let m = HasSize-some (core_of c.args.sets.now) c.strip.result.core size some in absurd (forest m.0 m.1)
        | inr none ↦ eq-eqb _ _ (omega arith)
      ],
    )
