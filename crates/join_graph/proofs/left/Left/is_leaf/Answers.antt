use Rattle.std.proofs.Common.{◌<◌, ◌≤◌, leb-true, leb-false}
use Rattle.std.proofs.lemmas.Bool.{OnTrue_from, OnFalse_from}
use Rattle.join_graph.specs.Removal.{IsLeaf}
use Rattle.join_graph.specs.Left.{IsKept, HasTwoIfKept}
use Rattle.join_graph.proofs.Sizes.{HasTwo-from_size, HasAtMostOne-from_size}
use Rattle.join_graph.proofs.Members.{cases_Member}
use Rattle.join_graph.proofs.left.Left.is_leaf.Goals as goal

pub returns-clause-leaf : goal.returns-clause-leaf
returns-clause-leaf c =
    let leaf : c.neighbours.result ≤ 1 → IsLeaf c.args.sets.now (IsKept c.args.self.now) c.args.step =
    λ few. (c.contains.ensures.0 c.if-not-contains.false, HasAtMostOne-from_size cases_Member _ c.neighbours.result c.neighbours.ensures few) in
    OnTrue_from _ _ (λ e. leaf (leb-true _ _ e))

pub returns-clause-no_leaf : goal.returns-clause-no_leaf
returns-clause-no_leaf c =
    let two : 1 < c.neighbours.result → HasTwoIfKept c.args.sets.now c.args.self.now c.args.step =
    λ many kept. HasTwo-from_size _ c.neighbours.result c.neighbours.ensures many in
    OnFalse_from _ _ (λ e. two (leb-false _ _ e))
