use Rattle.std.proofs.Common.{refl}
use Rattle.alg_model.specs.Pattern.{algebra_of}
use Rattle.match_relations.proofs.AcceptedLaws.{accepted_tree}
use Rattle.match_relations.proofs.tests.each_kind_of_triple_pattern_has_its_matches.Goals as goal

pub prepare-requires : goal.prepare-requires
prepare-requires g c =
    record { accepted = rw c.in_ok-tree.ensures (accepted_tree (algebra_of c.in_ok-pattern.pattern) (c.in-None.ensures.accepted.0 refl)) }
