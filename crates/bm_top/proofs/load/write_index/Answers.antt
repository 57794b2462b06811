use Rattle.std.proofs.Common.{◌≡◌, ℕ, [], length, subst, ◌∙◌, arith}
use Rattle.bm_world.specs.Meanings.{with_printed}
use Rattle.bm_world.specs.World.{AppendsAll}
use Rattle.bm_top.specs.Texts.{stored_text}
use Rattle.bm_world.proofs.Steps.{Step-then, Step-weaken}
use Rattle.bm_top.proofs.StepsDone.{EndsSo-stored, EndsSo-unstored, HasReason-printed, Moves-made, Moves-then_printed, Moves-unmade, Step-known, nothing_made}
use Rattle.bm_top.proofs.load.write_index.Goals as goal

pub returns-in-Ok-clause-step : goal.returns-in-Ok-clause-step
returns-in-Ok-clause-step g c =
    let bytes = c.args.made.now.bytes in
    let count : c.len.result ≡ length bytes.items = omega (arith, bytes.ok, c.len.ensures) in
    Step-then (Step-known c.in-Ok.ensures.step) c.print_stored.ensures.step (λ m k n known printed.
    let P : ℕ → Type 0 = λ len. AppendsAll with_printed (stored_text c.args.made.now.triples len) c.print_stored.result k n in
    rw c.print_ending.ensures (EndsSo-stored c.args.name.now bytes.items m (nothing_made _ m known.1 c.requires) (stored_text c.args.made.now.triples (length bytes.items)) c.print_stored.result k n
    (rw c.deref.ensures.value at known.0) (subst P count printed)))

pub returns-in-Ok-clause-reason : goal.returns-in-Ok-clause-reason
returns-in-Ok-clause-reason g c =
    let faults = g.W.World.faults in
    rw c.print_ending.ensures (HasReason-printed _ _ (faults c.args.world.now) (faults c.write_all_of.new.world) (faults c.print_stored.new.world) c.print_stored.result
    c.in-Ok.ensures.cause.later c.print_stored.ensures.cause
    (c.print_stored.ensures.reads_stay ∙ c.in-Ok.ensures.reads_stay) (c.print_stored.ensures.says_stay ∙ c.in-Ok.ensures.says_stay))

pub returns-in-Ok-clause-moves : goal.returns-in-Ok-clause-moves
returns-in-Ok-clause-moves g c =
    Step-then (Step-known c.in-Ok.ensures.step) c.print_stored.ensures.step (λ m k n known printed.
    Moves-then_printed [] _ c.print_stored.result m k n (Moves-made [] c.args.name.now c.args.made.now.bytes.items m k (nothing_made _ m known.1 c.requires) (rw c.deref.ensures.value at known.0)) printed)

pub returns-in-Err-clause-step : goal.returns-in-Err-clause-step
returns-in-Err-clause-step g c =
    Step-weaken (Step-known c.in-Err.ensures.step) (λ m n known.
    EndsSo-unstored c.args.name.now c.args.made.now.bytes.items m (nothing_made _ m known.1 c.requires) _ n (rw c.deref.ensures.value at known.0))

pub returns-in-Err-clause-moves : goal.returns-in-Err-clause-moves
returns-in-Err-clause-moves g c =
    Step-weaken (Step-known c.in-Err.ensures.step) (λ m n known. Moves-unmade [] c.args.name.now c.args.made.now.bytes.items m n (nothing_made _ m known.1 c.requires) (rw c.deref.ensures.value at known.0))
