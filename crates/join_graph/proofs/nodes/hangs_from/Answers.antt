use Rattle.join_graph.proofs.nodes.hangs_from.Goals as goal

pub returns : goal.returns
returns c = (
  λ h. record {
    forest = c.is_forest.ensures.0 c.if-not-is_forest.false;
    connected = c.is_connected.ensures.0 c.if-not-is_connected.false;
    shared = c.share_at_most_one.ensures.0 h;
  },
  λ hangs. c.share_at_most_one.ensures.1 hangs.shared,
)
