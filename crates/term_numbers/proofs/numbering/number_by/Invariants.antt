use Rattle.std.proofs.Common.{◌≡◌, take}
use Rattle.bm_term.specs.Kept.{after_all}
use Rattle.term_numbers.specs.Sights.{nothing_yet}
use Rattle.term_numbers.proofs.numbering.number_by.Given as goal

abbrev pub invariant-loop-triple : goal.invariant-loop-triple
invariant-loop-triple g l = l.builder ≡ after_all (nothing_yet l.limit) (take l.triple-index l.triples)
