use Rattle.std.proofs.Common.{ap, ◌∙◌}
use Rattle.alg_model.specs.declared.pattern.TriplePat.{TriplePat}
use Rattle.std.specs.Prelude.{List}
use Rattle.alg_model.specs.Pattern.{Algebra, Bgp, Join, LeftJoin}
use Rattle.bm_query.proofs.TestQueries.{after_keeps}
use Rattle.bm_query.proofs.tests.pattern.Goals as goal

pub returns-in_ok-join-in-After : goal.returns-in_ok-join-in-After
returns-in_ok-join-in-After c =
    let left = c.in_ok-left.left in
    let right = c.in_ok-right-in-After.right in
    let optional : Algebra → Algebra = λ first. Join first (Bgp right) in
    let none : List TriplePat → Algebra = λ list. LeftJoin (Bgp list) (Bgp left) in
    after_keeps _ left right (c.in_ok-join-in-After.ensures ∙ ap optional (c.in_ok-left-in-After.ensures ∙ ap none c.new.ensures))
    c.in_ok-left.ensures.below c.in_ok-right-in-After.ensures.below c.in_ok-left.ensures.numbers c.in_ok-right-in-After.ensures.numbers
