use Rattle.rdf_text.proofs.TextLemmas.{cut_before_rest}
use Rattle.rdf_text.proofs.runs.end_of.Goals as goal

pub split_at-requires : goal.split_at-requires
split_at-requires c =
    let (front, split) = c.requires.ends in
    cut_before_rest c.args.text.now c.args.rest.now front split c.requires.utf8
