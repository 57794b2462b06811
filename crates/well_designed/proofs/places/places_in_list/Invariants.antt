use Rattle.std.proofs.Common.{◌≡◌, take}
use Rattle.well_designed.specs.Places.{predicate_set, node_set, list_set_by}
use Rattle.well_designed.proofs.places.places_in_list.Given as goal

abbrev pub invariant-loop-triple : goal.invariant-loop-triple
invariant-loop-triple l =
    (l.predicates ≡ list_set_by predicate_set (take l.triple-index l.list)) × (l.nodes ≡ list_set_by node_set (take l.triple-index l.list))
