use Rattle.std.proofs.Common.{◌≡◌, ◌<◌, ℕ, length, sym, subst, refl}
use Rattle.alg_model.specs.Limits.{KeepsLimits}
use Rattle.alg_model.specs.Pattern.{algebra_of}
use Rattle.bm_query.proofs.EngineRows.{occurs_below}
use Rattle.match_relations.specs.AcceptedTrees.{IsAcceptedTree}
use Rattle.match_relations.proofs.AcceptedLaws.{accepted_tree}
use Rattle.pattern_tree.specs.Standing.{OccursAt}
use Rattle.prune_plan.specs.Accepted.{HasNoCrossPlace}
use Rattle.engine_tests.proofs.counts.report.Goals as goal

pub prepare-requires : goal.prepare-requires
prepare-requires c = record { accepted = rw c.in_ok-tree.ensures (accepted_tree (algebra_of c.in_ok-query.query.pattern) (c.in-None.ensures.accepted.0 refl)) }

pub prune-requires-clause-accepted : goal.prune-requires-clause-accepted
prune-requires-clause-accepted c = subst HasNoCrossPlace (sym c.in_ok-tree.ensures) (accepted_tree (algebra_of c.in_ok-query.query.pattern) (c.in-None.ensures.accepted.0 refl)).no_cross_place

pub flat_rows-requires-clause-below : goal.flat_rows-requires-clause-below
flat_rows-requires-clause-below c = λ k var occurs.
    let pattern = algebra_of c.in_ok-query.query.pattern in
    let keeps : KeepsLimits c.in_ok-query.query = c.in_ok-query.ensures in
    let at = subst (λ tree. OccursAt tree k var) c.in_ok-tree.ensures occurs in
    subst (λ n. var < n) (sym c.len.ensures) (occurs_below _ pattern keeps.pattern.vars_below k var at)
