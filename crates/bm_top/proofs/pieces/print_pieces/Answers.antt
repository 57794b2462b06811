use Rattle.std.proofs.Common.{suc, take, drop, get_or, arith, sym, ◌∙◌, ap}
use Rattle.bm_world.specs.Meanings.{with_printed}
use Rattle.bm_world.proofs.Appending.{printed_appends, appends_some}
use Rattle.bm_world.proofs.Steps.{Step-then, Step-weaken}
use Rattle.bm_top.proofs.LinePieces.{no_piece, all_of, pieces-more, AppendsUpTo-pieces, AppendsSome-wider, pieces-whole}
use Rattle.bm_top.proofs.pieces.print_pieces.Goals as goal

pub loop-piece-preserved : goal.loop-piece-preserved
loop-piece-preserved g c =
    let piece = (get_or c.args.pieces.now c.loop-piece.piece-index no_piece).now in
    let before = all_of (take c.loop-piece.piece-index c.args.pieces.now) in
    let more = pieces-more c.args.pieces.now c.loop-piece.piece-index no_piece c.loop-piece-test.true in
    record {
      said = Step-then c.loop-piece.invariant.said c.in-Ok.ensures.step (λ m k n so_far moved. moved ∙ ap (λ w. with_printed w piece) so_far ∙ printed_appends m before piece ∙ ap (with_printed m) (sym more));
      later = omega (arith, c.loop-piece.invariant.later, c.in-Ok.ensures.cause.later);
      reads = c.in-Ok.ensures.reads_stay ∙ c.loop-piece.invariant.reads;
      says = c.in-Ok.ensures.says_stay ∙ c.loop-piece.invariant.says;
    }

pub returns-in-Err-clause-step : goal.returns-in-Err-clause-step
returns-in-Err-clause-step g c =
    appends_some with_printed printed_appends (Step-weaken c.loop-piece.invariant.said (AppendsUpTo-pieces with_printed c.args.pieces.now c.loop-piece.piece-index no_piece c.loop-piece-test.true))
    (Step-weaken c.in-Err.ensures.step (AppendsSome-wider with_printed (get_or c.args.pieces.now c.loop-piece.piece-index no_piece).now (all_of (drop (suc c.loop-piece.piece-index) c.args.pieces.now))))

pub returns-clause-step : goal.returns-clause-step
returns-clause-step g c =
    Step-weaken c.loop-piece.invariant.said (λ m n so_far. so_far ∙ ap (with_printed m) (pieces-whole c.args.pieces.now c.loop-piece.piece-index c.loop-piece-test.false))
