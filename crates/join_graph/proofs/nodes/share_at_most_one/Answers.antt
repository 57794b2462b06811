use Rattle.std.proofs.Common.{leb-true, le-leb}
use Rattle.join_graph.proofs.Bits.{HasAtMostOne-and}
use Rattle.join_graph.proofs.nodes.share_at_most_one.Goals as goal

pub returns : goal.returns
returns c =
    let first = c.variables_of.ensures in
    let second = c.variables_of-2.ensures in
    let same = HasAtMostOne-and c.variables_of.result c.variables_of-2.result in (
      λ h v w in_v in_w. same.0 (leb-true _ _ h) v w ((first v).1 in_v.0, (second v).1 in_v.1) ((first w).1 in_w.0, (second w).1 in_w.1),
      λ one. le-leb _ _ (same.1 (λ v w in_v in_w. one v w ((first v).0 in_v.0, (second v).0 in_v.1) ((first w).0 in_w.0, (second w).0 in_w.1))),
    )
