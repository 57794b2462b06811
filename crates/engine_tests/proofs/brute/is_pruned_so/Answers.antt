use Rattle.std.proofs.Common.{◌≡◌, sym, subst, refl}
use Rattle.alg_model.specs.Pattern.{algebra_of}
use Rattle.match_relations.proofs.AcceptedLaws.{accepted_tree}
use Rattle.prune_plan.specs.Accepted.{HasNoCrossPlace}
use Rattle.engine_tests.proofs.brute.is_pruned_so.Goals as goal

pub prepare-requires : goal.prepare-requires
prepare-requires c = record { accepted = rw c.in_ok-tree.ensures (accepted_tree (algebra_of c.in_ok-query.query.pattern) (c.in-None.ensures.accepted.0 refl)) }

pub prune-requires-clause-accepted : goal.prune-requires-clause-accepted
prune-requires-clause-accepted c = subst HasNoCrossPlace (sym c.in_ok-tree.ensures) (accepted_tree (algebra_of c.in_ok-query.query.pattern) (c.in-None.ensures.accepted.0 refl)).no_cross_place
