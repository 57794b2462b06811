use Rattle.std.proofs.Common.{refl, inl, inr, arith}
use Rattle.std.proofs.lemmas.Bool.{false≢true, both_ways, cases_eq}
use Rattle.join_graph.proofs.nodes.is_simple.Goals as goal

pub returns-then-not-is_forest : goal.returns-then-not-is_forest
returns-then-not-is_forest c = (
  λ e. absurd (false≢true e),
  λ simple. absurd (both_ways _ c.if-not-is_forest.true (c.is_forest.ensures.1 (rw c.node.ensures simple.root))),
)

pub loop-k-init : goal.loop-k-init
loop-k-init c = λ j pos lt. absurd (omega arith)

pub returns-then-not-hangs_from : goal.returns-then-not-hangs_from
returns-then-not-hangs_from c = (
  λ e. absurd (false≢true e),
  λ simple.
      let hangs = simple.others c.loop-k.k (omega arith) (omega arith) in
      absurd (both_ways _ c.if-not-hangs_from.true (c.hangs_from.ensures.1 (rw (c.node-in-loop-k.ensures, c.node-parent.ensures) hangs))),
)

pub loop-k-preserved : goal.loop-k-preserved
loop-k-preserved c =
    λ j pos lt. elim (cases_eq j c.loop-k.k) [
      | inl e ↦ rw e (rw (c.node-in-loop-k.ensures, c.node-parent.ensures) at (c.hangs_from.ensures.0 c.if-not-hangs_from.false))
      | inr ne ↦ c.loop-k.invariant j pos (omega arith)
    ]

pub returns : goal.returns
returns c = (
  λ e. record {
    root = rw c.node.ensures at (c.is_forest.ensures.0 c.if-not-is_forest.false);
    others = λ k pos lt. c.loop-k.invariant k pos (omega arith);
  },
  λ simple. refl,
)
