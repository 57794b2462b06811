use Rattle.std.proofs.Common.{[], refl, ap, ◌∙◌, sym, arith}
use Rattle.bm_world.proofs.Steps.{Step-stay, Step-weaken}
use Rattle.bm_top.specs.Standard.{IsCounted}
use Rattle.bm_top.specs.Texts.{counts_text}
use Rattle.bm_top.specs.Verdict.{answered}
use Rattle.bm_top.proofs.IndexRead.{counted_opened, opened_as}
use Rattle.bm_top.proofs.StepsDone.{EndsSo-printed, HasReason-printed, Moves-printed}
use Rattle.bm_top.proofs.Verdicts.{damaged_then}
use Rattle.bm_top.proofs.index_steps.check_bytes.Goals as goal

pub returns-in-Ok-clause-step : goal.returns-in-Ok-clause-step
returns-in-Ok-clause-step g c =
    Step-weaken c.print_counts.ensures.step (λ m n printed verdict is.
    rw (
      c.print_ending.ensures,
      counted_opened c.args.bytes.now c.in-Ok.index (c.open.ensures.opened.0 (rw c.in-Ok.is refl)) (λ graph image. opened_as c.open.result c.in-Ok.index _ c.in-Ok.is (c.open.ensures.image graph image)) verdict is
          ∙ ap (λ counts. answered (counts_text counts)) (sym c.counts.ensures.counts),
    )
    (EndsSo-printed (counts_text c.counts.result) c.print_counts.result m n printed))

pub returns-in-Ok-clause-reason : goal.returns-in-Ok-clause-reason
returns-in-Ok-clause-reason g c =
    let faults = g.W.World.faults in
    rw c.print_ending.ensures (HasReason-printed _ _ (faults c.args.world.now) (faults c.args.world.now) (faults c.print_counts.new.world) c.print_counts.result (omega arith) c.print_counts.ensures.cause c.print_counts.ensures.reads_stay c.print_counts.ensures.says_stay)

pub returns-in-Ok-clause-moves : goal.returns-in-Ok-clause-moves
returns-in-Ok-clause-moves g c = Step-weaken c.print_counts.ensures.step (λ m n printed. Moves-printed [] _ c.print_counts.result m n printed)

pub returns-in-Err-clause-step : goal.returns-in-Err-clause-step
returns-in-Err-clause-step g c =
    Step-stay (λ m verdict is. (damaged_then c.args.bytes.now IsCounted c.in-Err.damaged.part verdict c.in-Err.ensures.damaged is, refl))
