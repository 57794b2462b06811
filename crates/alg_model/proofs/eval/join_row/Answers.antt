use Rattle.std.proofs.Common.{◌==◌, append_assoc}
use Rattle.std.specs.Cmp.Lexicographic.{pointwise}
use Rattle.alg_model.specs.Row.{merged}
use Rattle.alg_model.proofs.Lists.{filter_map-more}
use Rattle.alg_model.proofs.eval.join_row.Goals as goal

pub loop-other-preserved : goal.loop-other-preserved
loop-other-preserved c =
    let more = filter_map-more (merged (pointwise ◌==◌) c.args.row.now) c.args.right.now c.loop-other.other-index c.other-item.result c.loop-other-test.true c.other-item.is in
    rw (more, ← append_assoc) (cc (c.in_ok-push_some.ensures, c.in_ok-merged.ensures))
