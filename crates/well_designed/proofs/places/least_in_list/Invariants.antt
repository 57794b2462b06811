use Rattle.std.proofs.Common.{◌≡◌, take}
use Rattle.well_designed.specs.Places.{list_number}
use Rattle.well_designed.proofs.places.least_in_list.Given as goal

abbrev pub invariant-loop-triple : goal.invariant-loop-triple
invariant-loop-triple l = l.least ≡ list_number (take l.triple-index l.list)
