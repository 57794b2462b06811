use Rattle.std.proofs.Common.{ℕ, List, subst}
use Rattle.bm_world.specs.Meanings.{with_complained}
use Rattle.bm_world.specs.World.{Step, AppendsAll}
use Rattle.bm_top.proofs.LinePieces.{fault-pieces, fault-pieces_without}
use Rattle.bm_top.proofs.complain.complain_fault.Goals as goal

pub returns-in-Some-clause-step : goal.returns-in-Some-clause-step
returns-in-Some-clause-step g c =
    let P : List ℕ → Type 0 = λ line. Step (g.W.World.told c.args.world.now) (g.W.World.told c.complain_pieces.new.world) (AppendsAll with_complained line c.complain_pieces.result) in
    subst P (fault-pieces c.args.fault c.cause_words.result.0.now c.cause_words.result.1.now c.format.result.now c.in-Some.at c.cause_words.ensures c.in-Some.ensures c.format.ensures.text)
    (rw (c.as_bytes.ensures.value, c.as_bytes-in-Some.ensures.value, c.as_bytes-in-Some-2.ensures.value) at c.complain_pieces.ensures.step)

pub returns-in-None-clause-step : goal.returns-in-None-clause-step
returns-in-None-clause-step g c =
    let P : List ℕ → Type 0 = λ line. Step (g.W.World.told c.args.world.now) (g.W.World.told c.complain_pieces-in-None.new.world) (AppendsAll with_complained line c.complain_pieces-in-None.result) in
    subst P (fault-pieces_without c.args.fault c.cause_words.result.0.now c.cause_words.result.1.now c.cause_words.ensures c.in-None.ensures)
    (rw (c.as_bytes-in-None.ensures.value, c.as_bytes-in-None-2.ensures.value) at c.complain_pieces-in-None.ensures.step)
