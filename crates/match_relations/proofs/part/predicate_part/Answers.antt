use Rattle.std.proofs.Common.{ap}
use Rattle.match_relations.specs.declared.part.Part.TheVariants.{Number}
use Rattle.match_relations.proofs.PartLaws.{found_predicate}
use Rattle.match_relations.proofs.part.predicate_part.Goals as goal

pub returns-in-Some : goal.returns-in-Some
returns-in-Some c =
    let at = rw (c.bytes.ensures.text, c.as_ref.ensures) at c.in-Some.ensures.found in
    let found = found_predicate c.args.index.now.numbering c.in-Some.n c.in-Term.term c.counts.ensures.of_a_graph at in
    rw c.in-Term.is (ap Number found.0, found.1)
