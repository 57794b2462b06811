use Rattle.std.proofs.Common.{inl, inr}
use Rattle.alg_model.proofs.Rows.{merge_done}
use Rattle.alg_model.proofs.row.Row.merge.Goals as goal

pub returns : goal.returns
returns c = elim c.in-None.ensures.steps [
  | inl w ↦ merge_done _ _ _ _ c.loop-cell.invariant (inl w.1.0)
  | inr w ↦ merge_done _ _ _ _ c.loop-cell.invariant (inr w.1.0)
]
