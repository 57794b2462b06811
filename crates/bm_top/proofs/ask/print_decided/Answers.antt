use Rattle.bm_world.proofs.Steps.{Step-stay, Step-weaken}
use Rattle.bm_top.specs.Standard.{IsAnswerOrRefusal}
use Rattle.bm_top.proofs.IndexRead.{numbers_of}
use Rattle.bm_top.proofs.StepsDone.{EndsSo-undecided}
use Rattle.bm_top.proofs.Storing.{Says-no_index}
use Rattle.bm_top.proofs.Verdicts.{good_then, image_is_index}
use Rattle.bm_top.proofs.ask.print_decided.Goals as goal

pub view-requires : goal.view-requires
view-requires g c =
    let (bytes, read) = c.requires in
    let made = c.in-Ok.ensures bytes read in
    rw c.deref.ensures.value (image_is_index made.graph c.in-Ok.made.bytes.items made.is_index)

pub returns-in-Ok-clause-step : goal.returns-in-Ok-clause-step
returns-in-Ok-clause-step g c =
    Step-weaken c.print_answers.ensures.step (λ m n ended bytes read verdict is.
    let made = c.in-Ok.ensures bytes read in
    let same = (rw c.deref.ensures.value at c.view.ensures.image) made.graph made.is_index in
    ended made.graph (numbers_of made.graph c.in-Ok.made.bytes.items c.view.result made.is_index same) verdict
    (good_then bytes (λ graph _. IsAnswerOrRefusal c.args.form c.args.text.now graph) made.graph c.in-Ok.made.bytes.items verdict made.is_graph made.is_index is))

pub returns-in-Err-clause-step : goal.returns-in-Err-clause-step
returns-in-Err-clause-step g c =
    Step-stay (λ m bytes read verdict is. rw c.undecided_ending.ensures (EndsSo-undecided c.in-Err.undecided verdict m
    (Says-no_index bytes (λ graph _. IsAnswerOrRefusal c.args.form c.args.text.now graph) c.in-Err.undecided verdict (c.in-Err.ensures bytes read) is)))
