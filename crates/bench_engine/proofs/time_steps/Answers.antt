use Rattle.std.proofs.Common.{◌≡◌, ◌<◌, sym, subst}
use Rattle.alg_model.specs.Pattern.{algebra_of}
use Rattle.bm_query.proofs.EngineRows.{occurs_below}
use Rattle.match_relations.proofs.AcceptedLaws.{accepted_tree}
use Rattle.pattern_tree.specs.Standing.{OccursAt}
use Rattle.prune_plan.specs.Accepted.{HasNoCrossPlace}
use Rattle.bench_engine.proofs.time_steps.Goals as goal

pub prepare-requires : goal.prepare-requires
prepare-requires c = record { accepted = rw c.in_ok-tree.ensures (accepted_tree (algebra_of c.args.query.now.pattern) c.requires.accepted) }

pub prune-requires-clause-accepted : goal.prune-requires-clause-accepted
prune-requires-clause-accepted c = subst HasNoCrossPlace (sym c.in_ok-tree.ensures) (accepted_tree (algebra_of c.args.query.now.pattern) c.requires.accepted).no_cross_place

pub flat_rows-requires-clause-below : goal.flat_rows-requires-clause-below
flat_rows-requires-clause-below c = λ k var occurs.
    let pattern = algebra_of c.args.query.now.pattern in
    let at = subst (λ tree. OccursAt tree k var) c.in_ok-tree.ensures occurs in
    subst (λ n. var < n) (sym c.len.ensures) (occurs_below _ pattern c.requires.limits.pattern.vars_below k var at)
