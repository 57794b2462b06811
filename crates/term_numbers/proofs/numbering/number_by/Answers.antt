use Rattle.std.proofs.Common.{ap, ◌∙◌}
use Rattle.std.proofs.lemmas.List.{take_all}
use Rattle.bm_term.specs.Kept.{after_all}
use Rattle.term_numbers.specs.Sights.{nothing_yet}
use Rattle.term_numbers.proofs.SightLaws.{answer_numbers, answer_few, answer_many}
use Rattle.term_numbers.proofs.numbering.number_by.Goals as goal

pub returns-clause-numbering : goal.returns-clause-numbering
returns-clause-numbering g c =
    answer_numbers c.args.limit c.args.triples.now c.loop-triple.builder (c.loop-triple.invariant ∙ ap (after_all (nothing_yet c.args.limit)) (take_all c.loop-triple.triple-index c.args.triples.now c.loop-triple-test.false))
    c.finish.result c.finish.ensures.numbering c.finish.ensures.many

pub returns-clause-few : goal.returns-clause-few
returns-clause-few g c =
    answer_few c.args.limit c.args.triples.now c.loop-triple.builder (c.loop-triple.invariant ∙ ap (after_all (nothing_yet c.args.limit)) (take_all c.loop-triple.triple-index c.args.triples.now c.loop-triple-test.false))
    c.finish.result c.finish.ensures.numbering c.finish.ensures.many

pub returns-clause-many : goal.returns-clause-many
returns-clause-many g c =
    answer_many c.args.limit c.args.triples.now c.loop-triple.builder (c.loop-triple.invariant ∙ ap (after_all (nothing_yet c.args.limit)) (take_all c.loop-triple.triple-index c.args.triples.now c.loop-triple-test.false))
    c.finish.result c.finish.ensures.numbering c.finish.ensures.many
